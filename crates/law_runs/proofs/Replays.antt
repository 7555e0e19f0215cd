-- How replays join, and what a load changes.
use Rattle.std.proofs.Common.{◌≡◌, zero, suc, ◌+◌, [], ◌∷◌, false, None, refl, ap, ◌∙◌, arith}
use Rattle.evm_model.specs.Load.{bytes_from, load_board}
use Rattle.evm_model.specs.Refusals.{board_refusal, is_full}
use Rattle.evm_model.specs.Replay.{IsReplayOf, accept, apply, left_by, replay}
use Rattle.evm_model.specs.Rows.{row}
use Rattle.evm_model.specs.State.{State, booted, booted_parts}
use Rattle.evm_model.specs.Event.{Event}
use Rattle.law_rules.proofs.Runs.{IsKept, replay_keeps}
use Rattle.law_runs.specs.Replays.{ReplaysJoin, StartsAsReplay, StaysReplay, LoadsSoManyBytes, LoadsEachByte, HartsLoaded, LoadsNoMore}

pub replays_join : ReplaysJoin
unfolding replay
replays_join s [] rest = refl
replays_join s (event ∷ events) rest = replays_join (left_by (apply s event) s) events rest

pub starts_as_replay : StartsAsReplay
unfolding replay
starts_as_replay devices boot = record { replayed = refl }

-- an accepted event, replayed alone
one_accepted : (s : State) (event : Event) → is_full s ≡ false → board_refusal event s.board ≡ None → replay s (event ∷ []) ≡ (accept event (row event s.board) s).0
unfolding replay apply
one_accepted s event f e = rw (f, e) refl

journal_kept : (first : State) → IsKept (IsReplayOf first)
journal_kept first = record {
  accepted = λ s event f e h. record {
    replayed = replays_join first s.journal (event ∷ []) ∙ ap (λ (t : State). replay t (event ∷ [])) h.replayed ∙ one_accepted s event f e;
  };
}

empty_replay : (first : State) → first.journal ≡ [] → replay first first.journal ≡ first
unfolding replay
empty_replay first e = rw e refl

pub stays_replay : StaysReplay
stays_replay first events e = replay_keeps (IsReplayOf first) first events (journal_kept first) (record { replayed = empty_replay first e })

pub loads_so_many_bytes : LoadsSoManyBytes
unfolding bytes_from
loads_so_many_bytes byte address zero = refl
loads_so_many_bytes byte address (suc n) = ap suc (loads_so_many_bytes byte (address + 1) n)

pub loads_each_byte : LoadsEachByte
unfolding bytes_from
loads_each_byte byte address zero i h = absurd (omega arith)
loads_each_byte byte address (suc n) zero h = let same : address ≡ address + 0 = omega arith in ap byte same
loads_each_byte byte address (suc n) (suc i) h =
    let same : address + 1 + i ≡ address + suc i = omega arith in
    loads_each_byte byte (address + 1) n i (omega arith) ∙ ap byte same

pub harts_loaded : HartsLoaded
unfolding load_board booted booted_parts
harts_loaded devices byte entry boot = refl

pub loads_no_more : LoadsNoMore
unfolding load_board booted booted_parts
loads_no_more devices byte entry boot = refl
