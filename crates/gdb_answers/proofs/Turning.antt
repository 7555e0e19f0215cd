-- One turn more.
use Rattle.std.proofs.Common.{◌≡◌, ℕ, ◌+◌, ◌<◌, ◌≤◌, Bool, true, false, inl, inr, ◌⊎◌, List, [], ◌∷◌, ◌++◌, length, take, Option, Some, None, refl, sym, ap, subst, ◌∙◌, arith}
use Rattle.std.specs.Prelude.{Result, Ok, Err, ◌^◌, nat_eq, if◌then◌else◌}
use Rattle.std.specs.String.{string_len}
use Rattle.evm_streams.specs.declared.source.Reading.{Reading}
use Rattle.evm_streams.specs.declared.source.Reading.TheVariants.{Bytes, Failed}
use Rattle.evm_streams.specs.declared.source.ReadFault.{ReadFault}
use Rattle.evm_streams.specs.declared.source.ReadFault.TheVariants as faults
use Rattle.evm_streams.specs.declared.sink.Writing.{Writing}
use Rattle.gdb_packets.specs.Items.{Item, item_at, item_seen}
use Rattle.gdb_packets.specs.declared.item.PacketItem.{PacketItem}
use Rattle.gdb_packets.specs.declared.item.PacketItem.TheVariants.{Packet}
use Rattle.gdb_answers.specs.Responding.{LosesItem}
use Rattle.gdb_answers.specs.Starting.{waits_for_boot}
use Rattle.gdb_answers.specs.Turns.{Standing, boots_before, ItemsIn, Breaks, Serves, more, Answers, pause, is_asked, Rests, Waits, AnswersAll, BreaksOff, ReadsOn, Asks, Hears, Ends, Served}
use Rattle.gdb_answers.specs.declared.serving.Ended as ended
use Rattle.gdb_answers.specs.declared.serving.Ended.TheVariants.{Left, Saves, Boots, NoMemory, ReadFailed, WriteFailed}
use Rattle.gdb_answers.specs.declared.session.Booting.{Booting}
use Rattle.gdb_answers.specs.declared.session.Booting.TheVariants.{Asked}
use Rattle.gdb_answers.specs.declared.session.GdbSession.{GdbSession}
use Rattle.gdb_answers.proofs.Turns.{Gone, gone_answers, gone_reads, items_behind, rests_goes_on, serves_in}

-- ---- an item

waits_packet : (booting : Booting) (kind : PacketItem) (asks : Bool) → waits_for_boot booting kind asks ≡ true → kind ≡ Packet
waits_packet booting Packet asks e = refl
waits_packet booting _ asks e = absurd cc

-- the next item waits until the machine has booted anew
pub rests_waiting : {W : Type 0} (at : Standing W) (kind : PacketItem) (payload behind : List ℕ) → item_at at.heard ≡ Some (item_seen kind payload, behind) → at.session.over ≡ false
    → boots_before at.session kind payload ≡ true → Rests at (record at { session = record at.session { booting = Asked } })
rests_waiting {W} at kind payload behind next stays waits =
    let packet = waits_packet at.session.booting kind _ waits in inr (record {
      payload = payload;
      behind = behind;
      next = subst (λ (k : PacketItem). item_at at.heard ≡ Some (item_seen k payload, behind)) packet next;
      stays = stays;
      waits = subst (λ (k : PacketItem). boots_before at.session k payload ≡ true) packet waits;
      becomes = refl;
    })

module _ {W : Type 0} (takes : W → Writing → List ℕ → W → Type 0) where
  -- the session ends at the next item
  pub breaks_at : (end : ended.Ended) (at : Standing W) (session : GdbSession) (sink : W) (kind : PacketItem) (payload behind : List ℕ) → item_at at.heard ≡ Some (item_seen kind payload, behind)
      → at.session.over ≡ false
      → boots_before at.session kind payload ≡ false
      → LosesItem takes kind payload at.session session at.last at.sink sink end
      → Breaks takes end at session sink
  breaks_at NoMemory at session sink kind payload behind next stays ready loses = loses
  breaks_at (WriteFailed fault) at session sink kind payload behind next stays ready loses =
      record { kind = kind; payload = payload; behind = behind; next = next; stays = stays; ready = ready; loses = loses }
  breaks_at _ at session sink kind payload behind next stays ready loses = loses

  -- one item more is answered
  pub serves_more : (s t u : Standing W) (items : List Item) (item : Item) → Serves takes s items t → Answers takes item t u → Serves takes s (items ++ item ∷ []) u
  serves_more s t u items item served answer = more served answer

  -- where the bytes that are left are kept, the session stands where its items ended
  pub kept_rest : (count : ℕ) (start : Standing W) (session : GdbSession) (last : List ℕ) (sink : W) (kept : List ℕ) (all : AnswersAll takes count start session last sink)
      → ((front rest : List ℕ) → start.heard ≡ front ++ rest → count ≡ length rest → kept ≡ rest)
      → kept ≡ all.at.heard
  kept_rest count start session last sink kept all keeps =
      let behind = items_behind start.heard all.items all.at.heard (serves_in takes start all.items all.at all.serves) in keeps behind.front all.at.heard behind.whole all.left

-- ---- the end of a session

-- only three things make a session pause
paused_by : (P : ended.Ended → Type 0) (over none asked : Bool) (end : ended.Ended)
    → ◌≡◌ {A = Option ended.Ended} (if over then Some Left else (if none then (if asked then Some Boots else None) else Some Saves)) (Some end)
    → P Left → P Saves → P Boots → P end
paused_by P true none asked end e left saves boots = let same : Left ≡ end = cc in subst P same left
paused_by P false false asked end e left saves boots = let same : Saves ≡ end = cc in subst P same saves
paused_by P false true true end e left saves boots = let same : Boots ≡ end = cc in subst P same boots
paused_by P false true false end e left saves boots = absurd cc

module _ {R W : Type 0} (gives : R → Reading → List ℕ → R → Type 0) (takes : W → Writing → List ℕ → W → Type 0) where
  ends_paused : (end : ended.Ended) (read : List ℕ) (q : R) (at now : Standing W) → Rests at now → pause now.session ≡ Some end → Ends gives takes end read q at q now
  ends_paused end read q at now rests e =
      let P : ended.Ended → Type 0 = λ x. pause now.session ≡ Some x → Ends gives takes x read q at q now in
      paused_by P now.session.over (nat_eq (string_len now.session.save) 0) (is_asked now.session.booting) end e (λ is. inl ((rests, is), refl)) (λ is. ((rests, is), refl)) (λ is. ((rests, is), refl)) e

  ends_broken : (end : ended.Ended) (read : List ℕ) (q : R) (at now : Standing W) → Breaks takes end at now.session now.sink → Ends gives takes end read q at q now
  ends_broken NoMemory read q at now breaks = breaks
  ends_broken (WriteFailed fault) read q at now breaks = (breaks, refl)
  ends_broken Left read q at now breaks = absurd breaks
  ends_broken Saves read q at now breaks = absurd breaks
  ends_broken Boots read q at now breaks = absurd breaks
  ends_broken (ReadFailed fault) read q at now breaks = absurd breaks

  -- a read behind which the session ends
  ends_reading : (end : ended.Ended) (read : List ℕ) (q : R) (at : Standing W) (p : R) (session : GdbSession) (last : List ℕ) (sink : W) (kept heard : List ℕ) → item_at at.heard ≡ None → pause at.session ≡ None
      → ◌≡◌ {A = Standing W} (record { session = session; heard = kept; last = last; sink = sink }) at
      → ReadsOn gives (Err end) q kept p heard
      → Ends gives takes end read q at p (record { session = session; heard = heard; last = last; sink = sink })
  ends_reading NoMemory read q at p session last sink kept heard none goes same reads = ap (λ (x : Standing W). x.sink) same
  ends_reading (ReadFailed (faults.Failed cause)) read q at p session last sink kept heard none goes same reads =
      let P : List ℕ → Type 0 = λ z. ◌≡◌ {A = Standing W} (record { session = session; heard = z; last = last; sink = sink }) at in
      (reads.0, record { none = none; goes_on = goes; room = reads.1; call = reads.2 }, subst P (sym reads.3) same)
  ends_reading (ReadFailed faults.TooLong) read q at p session last sink kept heard none goes same reads = absurd reads
  ends_reading (ReadFailed faults.NotUtf8) read q at p session last sink kept heard none goes same reads = absurd reads
  ends_reading Left read q at p session last sink kept heard none goes same reads = absurd reads
  ends_reading Saves read q at p session last sink kept heard none goes same reads = absurd reads
  ends_reading Boots read q at p session last sink kept heard none goes same reads = absurd reads
  ends_reading (WriteFailed fault) read q at p session last sink kept heard none goes same reads = absurd reads

  -- ---- what a session did in a part that it read

  served_at : (k : ℕ) (end : ended.Ended) (r : R) (s : Standing W) (q : R) (at : Standing W) (p : R) (now : Standing W) (gone : Gone gives takes k r s q at) → Ends gives takes end gone.read q at p now
      → Served gives takes end r s p now
  served_at k end r s q at p now gone ends =
      record { items = gone.items; read = gone.read; before = q; at = at; goes = gone.goes; sent = gone.sent; ends = ends }

  -- so many parts were read
  pub served_long : (k : ℕ) (r : R) (s : Standing W) (q : R) (at : Standing W) → Gone gives takes k r s q at → 2 ^ 64 ≤ k + 1 → Served gives takes Left r s q at
  served_long k r s q at gone many =
      let longer : 2 ^ 64 ≤ length gone.read + 1 = omega (arith, gone.many, many) in served_at k Left r s q at q at gone (inr (inr longer))

  -- it ended at an item
  pub served_broken : (k : ℕ) (end : ended.Ended) (r : R) (s : Standing W) (q : R) (t now : Standing W) → Gone gives takes k r s q t → BreaksOff takes end t now.session now.sink → Served gives takes end r s q now
  served_broken k end r s q t now gone breaks =
      let further = gone_answers gives takes k r s q t breaks.at breaks.items gone breaks.serves in
      served_at k end r s q breaks.at q now further (ends_broken end further.read q breaks.at now breaks.breaks)

  module _ (k : ℕ) (r : R) (s : Standing W) (q : R) (t : Standing W) (count : ℕ) (session : GdbSession) (last : List ℕ) (sink : W) (kept : List ℕ) (gone : Gone gives takes k r s q t) (all : AnswersAll takes count t session last sink) (keeps : (front rest : List ℕ) → t.heard ≡ front ++ rest → count ≡ length rest → kept ≡ rest) where
    abbrev pub here : List ℕ → Standing W
    here heard = record { session = session; heard = heard; last = last; sink = sink }

    further : Gone gives takes k r s q all.at
    further = gone_answers gives takes k r s q t all.at all.items gone all.serves

    same_rest : kept ≡ all.at.heard
    same_rest = kept_rest takes count t session last sink kept all keeps

    rests : Rests all.at (here kept)
    rests = let P : List ℕ → Type 0 = λ z. Rests all.at (record { session = session; heard = z; last = last; sink = sink }) in subst P (sym same_rest) all.rests

    -- it pauses
    pub served_pause : (end : ended.Ended) → pause session ≡ Some end → Served gives takes end r s q (here kept)
    served_pause end e = served_at k end r s q all.at q (here kept) further (ends_paused end further.read q all.at (here kept) rests e)

    module _ (goes : pause session ≡ None) where
      none_left : (item_at all.at.heard ≡ None) × (here kept ≡ all.at)
      none_left = rests_goes_on all.at (here kept) rests goes

      goes_on : pause all.at.session ≡ None
      goes_on = subst (λ (x : Standing W). pause x.session ≡ None) none_left.1 goes

      -- the source gives no more
      pub served_end : (p : R) (heard : List ℕ) → ReadsOn gives (Ok false) q kept p heard → Served gives takes Left r s p (here heard)
      served_end p heard reads =
          let same : here heard ≡ all.at = subst (λ (z : List ℕ). here z ≡ all.at) (sym reads.3) none_left.1 in
          served_at k Left r s q all.at p (here heard) further (inr (inl (reads.0, record { none = none_left.0; goes_on = goes_on; room = reads.1; call = reads.2 }, same)))

      -- it fails
      pub served_failed : (end : ended.Ended) (p : R) (heard : List ℕ) → ReadsOn gives (Err end) q kept p heard → Served gives takes end r s p (here heard)
      served_failed end p heard reads =
          served_at k end r s q all.at p (here heard) further (ends_reading end further.read q all.at p session last sink kept heard none_left.0 goes_on none_left.1 reads)

      -- it gives some bytes
      pub gone_on : (p : R) (heard : List ℕ) → ReadsOn gives (Ok true) q kept p heard → Gone gives takes (k + 1) r s p (here heard)
      gone_on p heard reads =
          let bytes = take reads.0 reads.1 in
          let grown : heard ≡ all.at.heard ++ bytes = reads.5 ∙ ap (λ (z : List ℕ). z ++ bytes) same_rest in
          let next : Standing W = record all.at { heard = all.at.heard ++ bytes } in
          let behind : here (all.at.heard ++ bytes) ≡ next = ap (λ (x : Standing W). record x { heard = all.at.heard ++ bytes }) none_left.1 in
          let hears : Hears gives bytes q all.at p (here heard) = record {
            count = reads.0;
            part = reads.1;
            call = record { none = none_left.0; goes_on = goes_on; room = reads.3; call = reads.4 };
            some = reads.2;
            gave = refl;
            behind = subst (λ (z : List ℕ). here z ≡ next) (sym grown) behind;
          } in gone_reads gives takes k r s q all.at p (here heard) bytes further hears
