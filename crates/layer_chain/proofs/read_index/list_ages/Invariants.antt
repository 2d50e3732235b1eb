use Rattle.std.proofs.Common.{◌≡◌, ◌≤◌, ◌++◌, drop, vec_len, vec_capacity}
use Rattle.layer_chain.specs.Found.{ages_from}
use Rattle.layer_chain.proofs.read_index.list_ages.Given as goal

abbrev pub invariant-loop-place : goal.invariant-loop-place
invariant-loop-place l = record {
  ages : l.into.items ++ ages_from (drop l.place l.layers) l.wanted ≡ ages_from l.layers l.fn.name;
  few : vec_len l.into ≤ l.place;
  room : vec_capacity l.fn.into ≤ vec_capacity l.into;
}
