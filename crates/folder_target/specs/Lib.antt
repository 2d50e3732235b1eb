pub mod ObjectNames
