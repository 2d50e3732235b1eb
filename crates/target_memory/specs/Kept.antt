-- The objects that a target in memory keeps, as a map from names to bytes.
use Rattle.std.specs.Prelude.{ℕ, List, [], ◌∷◌, String, Vec, if◌then◌else◌, nat_eq}
use Rattle.std.specs.List.{starts_with}
use Rattle.std.specs.Option.{option_map}
use Rattle.std.specs.declared.alloc.Global.{Global}
use Rattle.std.specs.BTreeMap.{BTreeMap, get_by_text}
use Rattle.target_traits.specs.Objects.{Objects}
use Rattle.target_memory.specs.declared.no_fault_target.NoFaultTarget.{NoFaultTarget}

-- what each name's object holds in such a map
abbrev pub objects_in : BTreeMap (String Global) (Vec ℕ Global) → Objects
objects_in kept name = option_map (λ v. v.items) (get_by_text kept name)

-- the same of the target
abbrev pub objects_of : NoFaultTarget → Objects
objects_of target = objects_in target.objects

-- the name alone, where it begins so, and else none
abbrev pub kept_if : List ℕ → List ℕ → List (List ℕ)
kept_if prefix name = if starts_with nat_eq name prefix then name ∷ [] else []
