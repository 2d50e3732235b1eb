-- What is told of layers that came with a time does not hang on the time of a run.
use Rattle.std.proofs.Common.{◌≡◌, ℕ, Bool, true, false, if◌then◌else◌, List, [], ◌∷◌, Option, Some, None, is_some, unwrap_or}
use Rattle.std.proofs.Common.{option_map, refl}
use Rattle.std.specs.Prelude.{All}
use Rattle.std.specs.Str.{bytes_eq}
use Rattle.std.proofs.lemmas.List.Elements.{All-head, All-tail}
use Rattle.chain_meta.specs.ImageNames.{snapshot_file}
use Rattle.layer_chain.specs.declared.layer.LayerMeta.{LayerMeta}
use Rattle.replica_node.specs.Node.{Kept}
use Rattle.replica_shelf.specs.Folder.{layer_meta_of}
use Rattle.folder_laws.specs.Told.{told_of_name}

same_time : (o : Option (List ℕ)) (a b : List ℕ) → is_some o ≡ true → unwrap_or o a ≡ unwrap_or o b
same_time None a b is = absurd (cc)
same_time (Some time) a b is = refl

same_told : (a b : List ℕ) (m : LayerMeta) → is_some m.created ≡ true → layer_meta_of a m ≡ layer_meta_of b m
same_told a b m is = λ i. record {
  created = same_time m.created a b is i;
  name = snapshot_file m.name;
  parent = option_map snapshot_file m.parent;
  removed = m.marked;
  user_created = m.user_created;
}

same_if : {A : Type 0} (c : Bool) (x y u v : A) → x ≡ y → u ≡ v → (if c then x else u) ≡ (if c then y else v)
same_if true x y u v p q = p
same_if false x y u v p q = q

abbrev IsTimed : Kept → Type 0
IsTimed k = is_some k.meta.created ≡ true

pub told_timed : (a b : List ℕ) (ks : List Kept) (name : List ℕ) → All IsTimed ks → told_of_name a ks name ≡ told_of_name b ks name
told_timed a b [] name timed = refl
told_timed a b (k ∷ ks) name timed =
    same_if (bytes_eq name k.meta.name) _ _ _ _ (λ i. Some (same_told a b k.meta (All-head IsTimed k ks timed) i))
    (told_timed a b ks name (All-tail IsTimed k ks timed))
