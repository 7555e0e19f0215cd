-- A file that was saved with status 0 is kept.
use Rattle.std.proofs.Common.{◌≡◌, ℕ, List, [], Option, Some, None, Result, Ok, Err, inl, inr, sym, ap, subst, arith}
use Rattle.evm_streams.specs.declared.sink.Writing.{Writing}
use Rattle.evm_streams.specs.Writes.{Took}
use Rattle.evm_host.specs.evm_serve.Serving.{WritesAll, WritesMemory, status_at}
use Rattle.evm_host.specs.evm_serve.declared.ending.Verdict.TheVariants.{Done}
use Rattle.evm_host.specs.evm_serve.declared.ending.Ending.{Ending}
use Rattle.evm_host.specs.evm_serve.declared.ending.Ending.TheVariants.{Complete, NoMemory, ReadFailed, WriteFailed}
use Rattle.evm_host.specs.declared.system.OpenFault.{OpenFault}
use Rattle.evm_host.specs.declared.system.World.{World}
use Rattle.sh_answers.specs.Kept.{IsKept, IsKeptIf}
use Rattle.sh_command.specs.Saved.{MayKeepSuite, SavesIf, SavesIn, SavesSuite}

written : {C : Type 0} (created : C → Writing → List ℕ → C → Type 0) (text : List ℕ) (file took : C) (ending : Ending) (status : ℕ) → status ≡ 0 → WritesAll created (record { text = text; verdict = Done }) file took ending
    → status ≡ status_at ending → Took created file text took
written created text file took (Complete verdict) status well h e = h.0
written created text file took NoMemory status well h e = absurd h
written created text file took (ReadFailed fault) status well h e = absurd h
written created text file took (WriteFailed fault) status well h e = let four : status ≡ 4 = e in absurd (omega (arith, four, well))

not_refused : {W : Type 0} (writes : W → Writing → List ℕ → W → Type 0) (o o' : W) (ending : Ending) (status : ℕ) → status ≡ 0 → WritesMemory writes [] o o' ending → status ≡ status_at ending → ⊥
not_refused writes o o' (Complete verdict) status well h e = h
not_refused writes o o' NoMemory status well h e = let one : status ≡ 1 = e in omega (arith, one, well)
not_refused writes o o' (ReadFailed fault) status well h e = h
not_refused writes o o' (WriteFailed fault) status well h e = let four : status ≡ 4 = e in omega (arith, four, well)

module _ {S O C I W E : Type 0} (creates : S → List ℕ → Result C OpenFault → S → Type 0) (created : C → Writing → List ℕ → C → Type 0)
    (writes : W → Writing → List ℕ → W → Type 0) (reports : E → Writing → List ℕ → E → Type 0) where
  kept_in : (path text : List ℕ) (answer : Result C OpenFault) (files : S) (w w' : World S O C I W E) (status : ℕ) → status ≡ 0 → creates w.files path answer files
      → SavesIn creates created writes reports path text answer (record w { files = files }) w' status → IsKept creates created path text w.files w'.files
  kept_in path text (Err fault) files w w' status well made h = let four : status ≡ 4 = h.1.2 in absurd (omega (arith, four, well))
  kept_in path text (Ok file) files w w' status well made h = (
    file,
    h.2.1,
    subst (λ (s : S). creates w.files path (Ok file) s) (sym h.0.0) made,
    written created text file h.2.1 h.2.0 status well h.2.2 h.2.3.1,
  )

  -- with status 0 the file is kept, if one is named
  pub kept_if : (name : Option (List ℕ)) (text : List ℕ) (w w' : World S O C I W E) (status : ℕ) → status ≡ 0
      → SavesIf creates created writes reports name text w w' status → IsKeptIf creates created name text w.files w'.files
  kept_if None text w w' status well h = ap (λ (x : World S O C I W E). x.files) h.0
  kept_if (Some path) text w w' status well (inl h) = kept_in path text h.0 h.1 w w' status well h.2 h.3
  kept_if (Some path) text w w' status well (inr h) = absurd (not_refused writes w.output w'.output h.1.1.0 status well h.1.1.1 h.1.1.2.1)

  -- .. and at most the test suite is kept behind it
  pub suite_kept : (name : Option (List ℕ)) (w w' : World S O C I W E) (status : ℕ) → status ≡ 0
      → SavesSuite creates created writes reports name w w' status → MayKeepSuite creates created name w.files w'.files
  suite_kept None w w' status well h = ap (λ (x : World S O C I W E). x.files) h.0
  suite_kept (Some path) w w' status well (inl h) = inl (ap (λ (x : World S O C I W E). x.files) h.0)
  suite_kept (Some path) w w' status well (inr (inl h)) = inr (h.0, kept_in path h.0 h.1.0 h.1.1 w w' status well h.1.2 h.1.3)
  suite_kept (Some path) w w' status well (inr (inr h)) = absurd (not_refused writes w.output w'.output h.1.0 status well h.1.1 h.1.2.1)
