pub mod AlikeBoards
pub mod Boards
pub mod Equal
pub mod Words
