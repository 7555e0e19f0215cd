-- Which events the elements of a picture stand for: a box for each cell and each lane of which it has events.
use Rattle.std.specs.Prelude.{◌==◌, ℕ, List, [], ◌∷◌, ◌++◌, flat_map, get_or, if◌then◌else◌, length}
use Rattle.view_timeline.specs.Strips.{strip_at, strips_of}
use Rattle.view_timeline.specs.declared.cells.Cell.{Cell}
use Rattle.evm_model.specs.declared.limits.TheConstants.{PROCESSOR_LIMIT}
use Rattle.view_timeline.specs.run_marks.Lists.{below}
use Rattle.text_markup.specs.Draft as model
use Rattle.text_markup.specs.declared.names.Share.{Share}

-- a box stands for the events of a cell that are of a lane; there is none where no event is
abbrev pub box_of : ℕ → Cell → List Share
box_of lane cell =
    if get_or cell.shares lane 0 == 0 then []
    else record { lane = lane; first = cell.first; count = cell.count; events = get_or cell.shares lane 0 } ∷ []

abbrev pub lane_boxes : ℕ → List Cell → List Share
lane_boxes lane cells = flat_map (box_of lane) cells

-- of cells side by side: the lane of the machine, and behind it that of each processor
abbrev pub strip_boxes : ℕ → List Cell → List Share
strip_boxes cpus cells = lane_boxes PROCESSOR_LIMIT cells ++ below (λ cpu. lane_boxes cpu cells) cpus

-- of a picture: each cell stands in one strip
abbrev pub boxes_of : ℕ → List Cell → List Share
boxes_of cpus cells = below (λ number. strip_boxes cpus (strip_at number cells)) (strips_of (length cells))

-- a draft with more boxes, else as it was
abbrev pub with_boxes : List Share → model.Draft → model.Draft
with_boxes boxes draft = record draft { shares = draft.shares ++ boxes }
