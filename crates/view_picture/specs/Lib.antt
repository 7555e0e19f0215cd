pub mod Boxes
pub use Rattle.view_timeline.specs as view_timeline
pub use Rattle.view_timeline.specs.run_walk as run_walk
