pub mod Ops
