pub mod OpsLemmas
