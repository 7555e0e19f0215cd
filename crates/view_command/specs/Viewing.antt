-- What a run of the viewer writes, and its status.
use Rattle.std.specs.Prelude.{◌≡◌, ◌⊎◌, ℕ, List, Result, Ok, Err, length, map}
use Rattle.evm_streams.specs.declared.sink.Writing.{Writing}
use Rattle.evm_streams.specs.Writes.{Took}
use Rattle.evm_host.specs.declared.system.OpenFault.{OpenFault}
use Rattle.evm_host.specs.declared.system.World.{World}
use Rattle.evm_ram.specs.Images.{Contents}
use Rattle.evm_model.specs.Devices.{Attached}
use Rattle.evm_model.specs.Event.{Event}
use Rattle.view_picture.specs.run_walk.Items.{outline}
use Rattle.view_picture.specs.run_walk.Walks.{IsBegin, Walked}
use Rattle.view_picture.specs.Boxes.{boxes_of}
use Rattle.view_picture.specs.view_timeline.Rows.{IsWindow}
use Rattle.view_picture.specs.view_timeline.declared.cells.Timeline.{Timeline}
use Rattle.view_picture.specs.view_timeline.declared.gathering.Window.{Window}
use Rattle.text_markup.specs.Xml.{IsElement}
use Rattle.text_markup.specs.declared.names.Tag.TheVariants.{Svg}
use Rattle.view_page.specs.Pages.{HoldsRun}
use Rattle.view_command.specs.declared.drawing.ViewEnd.{ViewEnd}
use Rattle.view_command.specs.declared.drawing.ViewEnd.TheVariants.{AtFault, NoMemory, WriteFailed}

-- a timeline tells of the window of a journal's text, which is replayed on a machine with these devices and this image: it has a lane for each
-- processor of that machine, its cells stand one behind the other, and each tells of its events
abbrev pub TellsRun : List Attached → Contents → List ℕ → Window → Timeline → Type 0
TellsRun devices image text window timeline =
    (walk : Walked) × IsBegin devices image text walk × IsWindow window (map outline walk.events) timeline.cells.items
    × (timeline.cpu_count ≡ length walk.machine.board.parts.processors)

-- the sink took the whole text of one element, a picture in which a box stands for the events of each cell on each lane
abbrev pub IsPictured : {W : Type 0} → (W → Writing → List ℕ → W → Type 0) → Timeline → W → W → Type 0
IsPictured takes timeline start sink =
    (bytes : List ℕ) × Took takes start bytes sink × ∥ IsElement Svg (boxes_of timeline.cpu_count timeline.cells.items) bytes ∥₁

module _ {S O C I W E : Type 0} (creates : S → List ℕ → Result C OpenFault → S → Type 0) (created : C → Writing → List ℕ → C → Type 0)
    (writes : W → Writing → List ℕ → W → Type 0) where
  -- standard output took the picture of a timeline, or the file that was created under this name
  abbrev pub IsDrawn : List ℕ → Timeline → World S O C I W E → World S O C I W E → Type 0
  IsDrawn out timeline w w' = IsPictured writes timeline w.output w'.output ⊎ ((file took : C) × creates w.files out (Ok file) w'.files × IsPictured created timeline file took)

  -- .. the picture of the window of a run
  abbrev pub DrawsRun : List Attached → Contents → List ℕ → Window → World S O C I W E → World S O C I W E → Type 0
  DrawsRun devices image text window w w' = (timeline : Timeline) × (out : List ℕ) × TellsRun devices image text window timeline × IsDrawn out timeline w w'

  -- standard output took a text, or the file that was created did
  abbrev pub IsWritten : List ℕ → World S O C I W E → World S O C I W E → Type 0
  IsWritten text w w' = Took writes w.output text w'.output ⊎ ((out : List ℕ) × (file took : C) × creates w.files out (Ok file) w'.files × Took created file text took)

  -- .. a page with the run of a journal
  abbrev pub PagesRun : List Attached → Contents → List ℕ → World S O C I W E → World S O C I W E → Type 0
  PagesRun devices image journal w w' = (page : List ℕ) × HoldsRun devices image journal page × IsWritten page w w'

-- the status of a run that ended so
abbrev pub status_of : ViewEnd → ℕ
status_of (AtFault fault) = 1
status_of NoMemory = 1
status_of (WriteFailed fault) = 4
