pub mod Tables
mod Words
