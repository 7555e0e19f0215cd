-- A page that tells of a journal, event by event.
use Rattle.std.specs.Prelude.{◌≡◌, ℕ, ◌-◌, ◌^◌, List, [], ◌∷◌, ◌++◌, Option, Some, None, length}
use Rattle.evm_ram.specs.Images.{Contents}
use Rattle.evm_model.specs.Devices.{Attached}
use Rattle.run_walk.specs.Walks.{Follows, IsBegin, IsMarked, IsNext, Walked, place}
use Rattle.view_page.specs.Entries.{Entry}
use Rattle.view_page.specs.Texts.{run_text}

-- an entry tells of the item that comes next: at least one event, from the next one on, and the marks by which the machine differs behind it
pub record TellsNext (before : Walked) (entry : Entry) (after : Walked) : Type 0 where
  pub next : IsNext (2 ^ 64 - 1) before (Some entry.item) after
  pub marks : IsMarked (Some entry.item) before.machine after.machine entry.marks
  pub follows : Follows before after

-- the entries tell of the items from one place to another, in their order: each event between them is in one entry, and in no other
abbrev pub TellsEntries : Walked → List Entry → Walked → Type 0
TellsEntries from [] to = from ≡ to
TellsEntries from (entry ∷ entries) to = (next : Walked) × TellsNext from entry next × TellsEntries next entries to

-- .. up to the end of the journal
pub record TellsAll (walk : Walked) (entries : List Entry) : Type 0 where
  pub to : Walked
  pub tells : TellsEntries walk entries to
  pub ends : place to ≡ length to.events

-- a text is the run of the journal with this text, on a machine with these devices and this image, as it stands in a page
pub record IsToldRun (devices : List Attached) (image : Contents) (journal run : List ℕ) : Type 0 where
  pub walk : Walked
  pub header : List ℕ
  pub start : List ℕ
  pub entries : List Entry
  pub begin : IsBegin devices image journal walk
  pub all : TellsAll walk entries
  pub text : run ≡ run_text header start entries

abbrev pub AddsRun : List Attached → Contents → List ℕ → List ℕ → List ℕ → Type 0
AddsRun devices image journal old new = (run : List ℕ) × IsToldRun devices image journal run × (new ≡ old ++ run)

-- a page has this run
abbrev pub HoldsRun : List Attached → Contents → List ℕ → List ℕ → Type 0
HoldsRun devices image journal page = (front run back : List ℕ) × IsToldRun devices image journal run × (page ≡ front ++ (run ++ back))
