-- One change more.
use Rattle.std.proofs.Common.{◌≡◌, ℕ, Bool, ◌+◌, ◌<◌, length, take, get_or, List, [], ◌∷◌, ◌++◌, Option, refl, sym, ap, ◌∙◌, append_assoc, append-nil}
use Rattle.std.specs.Prelude.{flat_map, IsOk, OnOk, Result, Ok, Err}
use Rattle.std.proofs.lemmas.Grind.{flat_map-append}
use Rattle.std.proofs.lemmas.List.{take_more}
use Rattle.run_marks.specs.declared.mark.Mark.{Mark}
use Rattle.trace_records.specs.declared.change.Change.{Change}
use Rattle.trace_records.specs.declared.change.Change.TheVariants.{Shows, Noted}
use Rattle.trace_records.specs.declared.note.Note.{Note}
use Rattle.trace_records.specs.declared.state.State.{State}
use Rattle.trace_records.specs.declared.track.Track.{Track}
use Rattle.trace_command.specs.Flows.{if_flow, flows_in}
use Rattle.trace_command.specs.Instants.{instants_of, if_instant, instants_in}

instants-append : (xs ys : List Change) → instants_in (xs ++ ys) ≡ instants_in xs ++ instants_in ys
unfolding instants_in
instants-append [] ys = refl
instants-append (Shows track state at ∷ xs) ys = instants-append xs ys
instants-append (Noted n ∷ xs) ys =
    ap (λ (ns : List Note). if_instant n n.detail ++ ns) (instants-append xs ys) ∙ sym (append_assoc (if_instant n n.detail) (instants_in xs) (instants_in ys))

pub instants_shown : (xs : List Change) (track : Track) (state : Option State) (at : ℕ) → instants_in (xs ++ Shows track state at ∷ []) ≡ instants_in xs
unfolding instants_in
instants_shown xs track state at = instants-append xs (Shows track state at ∷ []) ∙ append-nil (instants_in xs)

pub instants_noted : (xs : List Change) (n : Note) → instants_in (xs ++ Noted n ∷ []) ≡ instants_in xs ++ if_instant n n.detail
unfolding instants_in
instants_noted xs n = instants-append xs (Noted n ∷ []) ∙ ap (λ (ns : List Note). instants_in xs ++ ns) (append-nil (if_instant n n.detail))

flows-append : (xs ys : List Change) → flows_in (xs ++ ys) ≡ flows_in xs ++ flows_in ys
unfolding flows_in
flows-append [] ys = refl
flows-append (Shows track state at ∷ xs) ys = flows-append xs ys
flows-append (Noted n ∷ xs) ys =
    ap (λ (ns : List Note). if_flow n n.detail ++ ns) (flows-append xs ys) ∙ sym (append_assoc (if_flow n n.detail) (flows_in xs) (flows_in ys))

pub flows_noted : (xs : List Change) (n : Note) → flows_in (xs ++ Noted n ∷ []) ≡ flows_in xs ++ if_flow n n.detail
unfolding flows_in
flows_noted xs n = flows-append xs (Noted n ∷ []) ∙ ap (λ (ns : List Note). flows_in xs ++ ns) (append-nil (if_flow n n.detail))

pub nothing : (ns : List Note) → ns ++ [] ≡ ns
nothing ns = append-nil ns

pub regroup : (a b c : List Note) → (a ++ b) ++ c ≡ a ++ (b ++ c)
regroup a b c = append_assoc a b c

pub ruleset told = (instants_shown, instants_noted, nothing, regroup)

-- the instants of one mark more
pub told_more : (wakes : Bool) (at : ℕ) (marks : List Mark) (i : ℕ) (d : Mark) (old so_far new : List Note) → i < length marks
    → so_far ≡ old ++ flat_map (instants_of wakes at) (take i marks) → new ≡ so_far ++ instants_of wakes at (get_or marks i d) → new ≡ old ++ flat_map (instants_of wakes at) (take (i + 1) marks)
told_more wakes at marks i d old so_far new below before one =
    let f = instants_of wakes at in
    let front = take i marks in
    let m = get_or marks i d in
    let next : take (i + 1) marks ≡ front ++ m ∷ [] = take_more marks i d below in
    let more : flat_map f (take (i + 1) marks) ≡ flat_map f front ++ f m = ap (flat_map f) next ∙ flat_map-append f front (m ∷ []) ∙ ap (λ (ns : List Note). flat_map f front ++ ns) (append-nil (f m)) in
    one ∙ ap (λ (ns : List Note). ns ++ f m) before ∙ append_assoc old (flat_map f front) (f m) ∙ ap (λ (ns : List Note). old ++ ns) (sym more)

-- ---- no changes
pub no_instants : instants_in [] ≡ []
unfolding instants_in
no_instants = refl

-- what holds of what is returned, where it is returned
pub on-ok : {A E : Type 0} (P : Type 0) (r : Result A E) → OnOk r P → IsOk r → P
on-ok P (Ok a) h ok = h
on-ok P (Err e) h ok = absurd cc
