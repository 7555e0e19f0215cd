-- The places of one mark more.
use Rattle.std.proofs.Common.{◌≡◌, ℕ, ◌+◌, ◌<◌, length, take, get_or, List, [], ◌∷◌, ◌++◌, ap, sym, ◌∙◌, append_assoc, append-nil}
use Rattle.std.specs.Prelude.{flat_map}
use Rattle.std.proofs.lemmas.Grind.{flat_map-append}
use Rattle.std.proofs.lemmas.List.{take_more}
use Rattle.evm_exec.specs.declared.hart.Hart.{Hart}
use Rattle.trace_records.specs.declared.place.CodePlace.{CodePlace}
use Rattle.run_marks.specs.declared.mark.Mark.{Mark}
use Rattle.trace_command.specs.Spots.{spots_of}

pub placed_more : (harts : List Hart) (at : ℕ) (marks : List Mark) (i : ℕ) (d : Mark) (old so_far new : List CodePlace) → i < length marks
    → so_far ≡ old ++ flat_map (spots_of harts at) (take i marks) → new ≡ so_far ++ spots_of harts at (get_or marks i d) → new ≡ old ++ flat_map (spots_of harts at) (take (i + 1) marks)
placed_more harts at marks i d old so_far new below before one =
    let f = spots_of harts at in
    let front = take i marks in
    let m = get_or marks i d in
    let next : take (i + 1) marks ≡ front ++ m ∷ [] = take_more marks i d below in
    let more : flat_map f (take (i + 1) marks) ≡ flat_map f front ++ f m = ap (flat_map f) next ∙ flat_map-append f front (m ∷ []) ∙ ap (λ (ps : List CodePlace). flat_map f front ++ ps) (append-nil (f m)) in
    one ∙ ap (λ (ps : List CodePlace). ps ++ f m) before ∙ append_assoc old (flat_map f front) (f m) ∙ ap (λ (ps : List CodePlace). old ++ ps) (sym more)
