-- A chain of layers, and how many layers are older than each of it: over layers of other names, over a layer that is
-- taken out, and over one that is put in its parent's place.
use Rattle.std.proofs.Common.{◌≡◌, ◌≢◌, ◌⊎◌, inl, inr, ⊎_elim, ℕ, suc, ◌<◌, ◌≤◌, true, false, Bool, List, [], ◌∷◌, ◌++◌, Option}
use Rattle.std.proofs.Common.{None, Some, sym, refl, ap, ◌∙◌, length, map, arith, length-append, if◌then◌else◌, ◌==◌}
use Rattle.std.proofs.lemmas.List.{length-map}
use Rattle.vol_units.specs.Chain.{is_named, chain_from}
use Rattle.layer_chain.specs.Layers.{HasNo, IsAbove, HasNoChild, ages_in}
use Rattle.layer_chain.specs.Found.{first_true, index_of_age}
use Rattle.layer_chain.proofs.ReadLaws.{is_named-same, is_named-other, cases_named}

-- c, over its parent p, is in a chain at that index, and d is there in the place of both
pub record IsShorter {X : Type 0} (old new : List X) (index : ℕ) (c p d : X) : Type 0 where
  pub above : List X
  pub below : List X
  pub was : old ≡ above ++ (c ∷ (p ∷ below))
  pub is : new ≡ above ++ (d ∷ below)
  pub place : index ≡ suc (suc (length below))

-- c is not in the chain, which is as it was
pub record IsSame {X : Type 0} (old new : List X) (index : ℕ) : Type 0 where
  pub is : new ≡ old
  pub place : index ≡ 0

-- the one or the other
abbrev pub Goes : {X : Type 0} → List X → List X → ℕ → X → X → X → Type 0
Goes old new index c p d = IsShorter old new index c p d ⊎ IsSame old new index

module _ {X : Type 0} (name_of : X → List ℕ) (parent_of : X → Option (List ℕ)) where
  abbrev No : List ℕ → List X → Type 0
  No = HasNo name_of parent_of

  abbrev Childless : List ℕ → List X → Type 0
  Childless = HasNoChild name_of parent_of

  abbrev Above : Option (List ℕ) → List X → Type 0
  Above = IsAbove name_of parent_of

  abbrev chain : List X → Option (List ℕ) → List X
  chain = chain_from name_of parent_of

  abbrev ages : List X → Option (List ℕ) → List ℕ
  ages = ages_in name_of parent_of

  -- the named layer is the first, and its parent's chain is behind it
  pub chain-same : (want : Option (List ℕ)) (x : X) (older : List X) → want ≡ Some (name_of x)
      → chain (x ∷ older) want ≡ x ∷ chain older (parent_of x)
  chain-same want x older e =
      ap (λ (b : Bool). if b then x ∷ chain older (parent_of x) else chain older want) (is_named-same want (name_of x) e)

  pub ages-same : (want : Option (List ℕ)) (x : X) (older : List X) → want ≡ Some (name_of x)
      → ages (x ∷ older) want ≡ length older ∷ ages older (parent_of x)
  ages-same want x older e =
      ap (λ (b : Bool). if b then length older ∷ ages older (parent_of x) else ages older want) (is_named-same want (name_of x) e)

  -- a layer of another name is passed over
  pub chain-other : (want : Option (List ℕ)) (x : X) (older : List X) → want ≢ Some (name_of x) → chain (x ∷ older) want ≡ chain older want
  chain-other want x older n =
      ap (λ (b : Bool). if b then x ∷ chain older (parent_of x) else chain older want) (is_named-other want (name_of x) n)

  pub ages-other : (want : Option (List ℕ)) (x : X) (older : List X) → want ≢ Some (name_of x) → ages (x ∷ older) want ≡ ages older want
  ages-other want x older n =
      ap (λ (b : Bool). if b then length older ∷ ages older (parent_of x) else ages older want) (is_named-other want (name_of x) n)

  pub length-ages : (xs : List X) (want : Option (List ℕ)) → length (ages xs want) ≡ length (chain xs want)
  length-ages [] want = refl
  length-ages (x ∷ xs) want =
      ⊎_elim
      (λ e. ap length (ages-same want x xs e) ∙ ap suc (length-ages xs (parent_of x)) ∙ sym (ap length (chain-same want x xs e)))
      (λ n. ap length (ages-other want x xs n) ∙ length-ages xs want ∙ sym (ap length (chain-other want x xs n)))
      (cases_named want (name_of x))

  -- no name has no chain
  chain-none : (xs : List X) → chain xs None ≡ []
  chain-none [] = refl
  chain-none (x ∷ xs) = chain-none xs

  -- layers of other names are passed over
  chain-past : (name : List ℕ) (xs rest : List X) → No name xs → chain (xs ++ rest) (Some name) ≡ chain rest (Some name)
  chain-past name [] rest h = refl
  chain-past name (x ∷ xs) rest h =
      chain-other (Some name) x (xs ++ rest) (λ e. let same : name ≡ name_of x = cc in h.0 (sym same)) ∙ chain-past name xs rest h.1

  -- likewise for a parent, if there is one
  chain-past_parent : (parent : Option (List ℕ)) (xs rest : List X) → Above parent xs → chain (xs ++ rest) parent ≡ chain rest parent
  chain-past_parent None xs rest h = chain-none (xs ++ rest) ∙ sym (chain-none rest)
  chain-past_parent (Some name) xs rest h = chain-past name xs rest h

  -- a layer on which none stands is taken out
  pub chain-without : (xs zs : List X) (p : X) → Childless (name_of p) xs → (want : Option (List ℕ)) → want ≢ Some (name_of p)
      → chain (xs ++ zs) want ≡ chain (xs ++ (p ∷ zs)) want
  chain-without [] zs p childless want n = sym (chain-other want p zs n)
  chain-without (x ∷ xs) zs p childless want n =
      ⊎_elim
      (λ e. chain-same want x (xs ++ zs) e ∙ ap (λ (ys : List X). x ∷ ys) (chain-without xs zs p childless.1 (parent_of x) childless.0)
      ∙ sym (chain-same want x (xs ++ (p ∷ zs)) e))
      (λ o. chain-other want x (xs ++ zs) o ∙ chain-without xs zs p childless.1 want n ∙ sym (chain-other want x (xs ++ (p ∷ zs)) o))
      (cases_named want (name_of x))

  -- what is asked of each layer of a chain does not change with a layer of the same name and parent, of which it is the same
  pub chain-alike : {Y : Type 0} (f : X → Y) (xs ys : List X) (c d : X) → name_of d ≡ name_of c → parent_of d ≡ parent_of c
      → f d ≡ f c → (want : Option (List ℕ)) → map f (chain (xs ++ (d ∷ ys)) want) ≡ map f (chain (xs ++ (c ∷ ys)) want)
  chain-alike f [] ys c d d_name d_parent same want =
      ap (λ (n : List ℕ). map f (if is_named want n then d ∷ chain ys (parent_of d) else chain ys want)) d_name
      ∙ ⊎_elim
      (λ e. ap (λ (b : Bool). map f (if b then d ∷ chain ys (parent_of d) else chain ys want)) (is_named-same want (name_of c) e)
      ∙ ap (λ y. y ∷ map f (chain ys (parent_of d))) same
      ∙ ap (λ (n : Option (List ℕ)). f c ∷ map f (chain ys n)) d_parent
      ∙ sym (ap (map f) (chain-same want c ys e)))
      (λ o. ap (λ (b : Bool). map f (if b then d ∷ chain ys (parent_of d) else chain ys want)) (is_named-other want (name_of c) o)
      ∙ sym (ap (map f) (chain-other want c ys o)))
      (cases_named want (name_of c))
  chain-alike f (x ∷ xs) ys c d d_name d_parent same want =
      ⊎_elim
      (λ e. ap (map f) (chain-same want x (xs ++ (d ∷ ys)) e)
      ∙ ap (λ ks. f x ∷ ks) (chain-alike f xs ys c d d_name d_parent same (parent_of x))
      ∙ sym (ap (map f) (chain-same want x (xs ++ (c ∷ ys)) e)))
      (λ o. ap (map f) (chain-other want x (xs ++ (d ∷ ys)) o) ∙ chain-alike f xs ys c d d_name d_parent same want
      ∙ sym (ap (map f) (chain-other want x (xs ++ (c ∷ ys)) o)))
      (cases_named want (name_of x))

  longer : (xs ys : List X) (c d : X) → length (xs ++ (d ∷ ys)) ≡ length (xs ++ (c ∷ ys))
  longer xs ys c d = length-append xs (d ∷ ys) ∙ sym (length-append xs (c ∷ ys))

  pub ages-alike : (xs ys : List X) (c d : X) → name_of d ≡ name_of c → parent_of d ≡ parent_of c → (want : Option (List ℕ))
      → ages (xs ++ (d ∷ ys)) want ≡ ages (xs ++ (c ∷ ys)) want
  ages-alike [] ys c d d_name d_parent want =
      ap (λ (n : List ℕ). if is_named want n then length ys ∷ ages ys (parent_of d) else ages ys want) d_name
      ∙ ap (λ (p : Option (List ℕ)). if is_named want (name_of c) then length ys ∷ ages ys p else ages ys want) d_parent
  ages-alike (x ∷ xs) ys c d d_name d_parent want =
      ⊎_elim
      (λ e. ages-same want x (xs ++ (d ∷ ys)) e
      ∙ ap (λ (n : ℕ). n ∷ ages (xs ++ (d ∷ ys)) (parent_of x)) (longer xs ys c d)
      ∙ ap (λ (ks : List ℕ). length (xs ++ (c ∷ ys)) ∷ ks) (ages-alike xs ys c d d_name d_parent (parent_of x))
      ∙ sym (ages-same want x (xs ++ (c ∷ ys)) e))
      (λ o. ages-other want x (xs ++ (d ∷ ys)) o ∙ ages-alike xs ys c d d_name d_parent want ∙ sym (ages-other want x (xs ++ (c ∷ ys)) o))
      (cases_named want (name_of x))

  -- ---- a layer in its parent's place

  -- an age that is not the one looked for is passed over
  index-other : (age n : ℕ) (ks : List ℕ) → age < n → index_of_age (n ∷ ks) age ≡ index_of_age ks age
  index-other age n ks h =
      let other : (n == age) ≡ false = grind arith in
      ap (λ (b : Bool). first_true (b ∷ map (λ a. a == age) ks)) other

  index-here : (age n : ℕ) (ks : List ℕ) → n ≡ age → index_of_age (n ∷ ks) age ≡ suc (length ks)
  index-here age n ks h =
      let same : (n == age) ≡ true = grind arith in
      ap (λ (b : Bool). first_true (b ∷ map (λ a. a == age) ks)) same ∙ ap suc (length-map ks (λ a. a == age))

  -- no layer has so many that are older
  index-none : (age : ℕ) (xs : List X) (want : Option (List ℕ)) → length xs ≤ age → index_of_age (ages xs want) age ≡ 0
  index-none age [] want h = refl
  index-none age (x ∷ xs) want h =
      let other : (length xs == age) ≡ false = grind arith in
      ⊎_elim
      (λ e. ap (λ (ks : List ℕ). index_of_age ks age) (ages-same want x xs e)
      ∙ ap (λ (b : Bool). first_true (b ∷ map (λ a. a == age) (ages xs (parent_of x)))) other
      ∙ index-none age xs (parent_of x) (omega (arith, h)))
      (λ o. ap (λ (ks : List ℕ). index_of_age ks age) (ages-other want x xs o) ∙ index-none age xs want (omega (arith, h)))
      (cases_named want (name_of x))

  -- c, then its parent p further on, and d, which takes c's place with p's parent once p is taken out
  module _ (ys zs : List X) (c p d : X) (on : parent_of c ≡ Some (name_of p)) (childless_ys : Childless (name_of p) ys)
      (absent_ys : No (name_of p) ys) (d_name : name_of d ≡ name_of c) (d_parent : parent_of d ≡ parent_of p)
      (above : Above (parent_of p) ys) where
    abbrev was : List X
    was = c ∷ (ys ++ (p ∷ zs))

    abbrev is : List X
    is = d ∷ (ys ++ zs)

    abbrev age : ℕ
    age = length (ys ++ (p ∷ zs))

    abbrev GoesBelow : List X → Option (List ℕ) → Type 0
    GoesBelow xs want = Goes (chain (xs ++ was) want) (chain (xs ++ is) want) (index_of_age (ages (xs ++ was) want) age) c p d

    from_p : chain (ys ++ (p ∷ zs)) (parent_of c) ≡ p ∷ chain zs (parent_of p)
    from_p = ap (chain (ys ++ (p ∷ zs))) on ∙ chain-past (name_of p) ys (p ∷ zs) absent_ys ∙ chain-same (Some (name_of p)) p zs refl

    here : (want : Option (List ℕ)) → want ≡ Some (name_of c) → IsShorter (chain was want) (chain is want)
        (index_of_age (ages was want) age) c p d
    here want e = record {
      above = [];
      below = chain zs (parent_of p);
      was = chain-same want c (ys ++ (p ∷ zs)) e ∙ ap (λ (ks : List X). c ∷ ks) from_p;
      is = chain-same want d (ys ++ zs) (e ∙ ap (λ (n : List ℕ). Some n) (sym d_name))
          ∙ ap (λ (ks : List X). d ∷ ks) (ap (chain (ys ++ zs)) d_parent ∙ chain-past_parent (parent_of p) ys zs above);
      place = ap (λ (ks : List ℕ). index_of_age ks age) (ages-same want c (ys ++ (p ∷ zs)) e)
          ∙ index-here age age (ages (ys ++ (p ∷ zs)) (parent_of c)) refl
          ∙ ap suc (length-ages (ys ++ (p ∷ zs)) (parent_of c) ∙ ap length from_p);
    }

    elsewhere : (want : Option (List ℕ)) → want ≢ Some (name_of c) → want ≢ Some (name_of p)
        → IsSame (chain was want) (chain is want) (index_of_age (ages was want) age)
    elsewhere want o n = record {
      is = chain-other want d (ys ++ zs) (λ e. o (e ∙ ap (λ (m : List ℕ). Some m) d_name))
          ∙ chain-without ys zs p childless_ys want n ∙ sym (chain-other want c (ys ++ (p ∷ zs)) o);
      place = ap (λ (ks : List ℕ). index_of_age ks age) (ages-other want c (ys ++ (p ∷ zs)) o)
          ∙ index-none age (ys ++ (p ∷ zs)) want (omega arith);
    }

    newer : (xs : List X) → age < length (xs ++ was)
    newer xs = omega (arith, length-append xs was)

    past : (x : X) (xs : List X) (want : Option (List ℕ)) → want ≡ Some (name_of x) → GoesBelow xs (parent_of x) → GoesBelow (x ∷ xs) want
    past x xs want e (inl s) = inl (record {
      above = x ∷ s.above;
      below = s.below;
      was = chain-same want x (xs ++ was) e ∙ ap (λ (ks : List X). x ∷ ks) s.was;
      is = chain-same want x (xs ++ is) e ∙ ap (λ (ks : List X). x ∷ ks) s.is;
      place = ap (λ (ks : List ℕ). index_of_age ks age) (ages-same want x (xs ++ was) e)
          ∙ index-other age (length (xs ++ was)) (ages (xs ++ was) (parent_of x)) (newer xs) ∙ s.place;
    })
    past x xs want e (inr s) = inr (record {
      is = chain-same want x (xs ++ is) e ∙ ap (λ (ks : List X). x ∷ ks) s.is ∙ sym (chain-same want x (xs ++ was) e);
      place = ap (λ (ks : List ℕ). index_of_age ks age) (ages-same want x (xs ++ was) e)
          ∙ index-other age (length (xs ++ was)) (ages (xs ++ was) (parent_of x)) (newer xs) ∙ s.place;
    })

    over : (x : X) (xs : List X) (want : Option (List ℕ)) → want ≢ Some (name_of x) → GoesBelow xs want → GoesBelow (x ∷ xs) want
    over x xs want o (inl s) = inl (record {
      above = s.above;
      below = s.below;
      was = chain-other want x (xs ++ was) o ∙ s.was;
      is = chain-other want x (xs ++ is) o ∙ s.is;
      place = ap (λ (ks : List ℕ). index_of_age ks age) (ages-other want x (xs ++ was) o) ∙ s.place;
    })
    over x xs want o (inr s) = inr (record {
      is = chain-other want x (xs ++ is) o ∙ s.is ∙ sym (chain-other want x (xs ++ was) o);
      place = ap (λ (ks : List ℕ). index_of_age ks age) (ages-other want x (xs ++ was) o) ∙ s.place;
    })

    pub chain-replaced : (xs : List X) → Childless (name_of p) xs → (want : Option (List ℕ)) → want ≢ Some (name_of p)
        → GoesBelow xs want
    chain-replaced [] childless want n =
        ⊎_elim (λ e. inl (here want e)) (λ o. inr (elsewhere want o n)) (cases_named want (name_of c))
    chain-replaced (x ∷ xs) childless want n =
        ⊎_elim
        (λ e. past x xs want e (chain-replaced xs childless.1 (parent_of x) childless.0))
        (λ o. over x xs want o (chain-replaced xs childless.1 want n))
        (cases_named want (name_of x))
