pub mod Results
pub mod Line_by_line
pub mod Li_and_la_load
pub mod Lines_worded
pub mod Statements_without_labels
pub mod Operands_in_range
pub mod Statements_add_their_size
pub mod Placed_where_laid
pub mod Programs_as_meant
pub use Rattle.evm_asm_parser.proofs as evm_asm_parser
mod Behind
