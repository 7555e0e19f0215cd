-- What instruction words stand for. Table is the definition; Decoded and Encoded are the same table read from
-- either side.
pub mod Fields
pub mod Table
pub mod Decoded
pub mod Encoded
