-- What moving blocks onto a parent, and taking a parent out, leave of each layer's reading.
use Rattle.std.proofs.Common.{◌≡◌, ◌≢◌, ◌⊎◌, inl, inr, ⊎_elim, ℕ, true, false, cond, List, [], ◌∷◌, ◌++◌, Option}
use Rattle.std.proofs.Common.{None, Some, sym, refl, ap, ◌∙◌, ◌+◌, ◌<◌, ◌≤◌, suc, length, get_or, drop, arith}
use Rattle.std.proofs.Math.Seq.{drop-cons}
use Rattle.std.proofs.lemmas.List.{drop_all}
use Rattle.std.specs.Option.{option_or}
use Rattle.std.specs.Str.{bytes_eq}
use Rattle.std.proofs.lemmas.Slice.Eq.{bytes_eq-Decides}
use Rattle.std.proofs.lemmas.Bool.{cases_Bool, false_from_ne_true, false≢true}
use Rattle.vol_units.specs.Chain.{is_named}
use Rattle.layer_chain.specs.Layers.{HasNo, IsAbove, HasNoChild, read_layers}

-- the test for a name
pub is_named-same : (want : Option (List ℕ)) (name : List ℕ) → want ≡ Some name → is_named want name ≡ true
is_named-same None name e = absurd (cc)
is_named-same (Some want) name e = let same : want ≡ name = cc in (bytes_eq-Decides want name).1 same

pub is_named-other : (want : Option (List ℕ)) (name : List ℕ) → want ≢ Some name → is_named want name ≡ false
is_named-other None name n = refl
is_named-other (Some want) name n = false_from_ne_true (bytes_eq want name)
    (λ e. n (ap (λ (x : List ℕ). Some x) ((bytes_eq-Decides want name).0 e)))

-- a name is the one looked for, or another
pub cases_named : (want : Option (List ℕ)) (name : List ℕ) → (want ≡ Some name) ⊎ (want ≢ Some name)
cases_named None name = inr (λ e. absurd (cc))
cases_named (Some want) name =
    elim (cases_Bool (bytes_eq want name)) [
      | inl t ↦ inl (ap (λ (x : List ℕ). Some x) ((bytes_eq-Decides want name).0 t))
      | inr f ↦ inr (λ e. let same : want ≡ name = cc in absurd (false≢true (sym f ∙ (bytes_eq-Decides want name).1 same)))
    ]

module _ {X : Type 0} (name_of : X → List ℕ) (parent_of : X → Option (List ℕ)) where
  abbrev No : List ℕ → List X → Type 0
  No = HasNo name_of parent_of

  abbrev Childless : List ℕ → List X → Type 0
  Childless = HasNoChild name_of parent_of

  abbrev Above : Option (List ℕ) → List X → Type 0
  Above = IsAbove name_of parent_of

  module _ {B : Type 0} (block_of : X → Option B) where
    abbrev read : List X → Option (List ℕ) → Option B
    read = read_layers name_of parent_of block_of

    -- a layer of another name is passed over
    pub read-other : (want : Option (List ℕ)) (x : X) (older : List X) → want ≢ Some (name_of x) → read (x ∷ older) want ≡ read older want
    unfolding read_layers
    read-other want x older n = ap (λ t. cond t (option_or (block_of x) (read older (parent_of x))) (read older want))
        (is_named-other want (name_of x) n)

    -- the named layer gives its block, or what its parent reads as
    pub read-same : (want : Option (List ℕ)) (x : X) (older : List X) → want ≡ Some (name_of x)
        → read (x ∷ older) want ≡ option_or (block_of x) (read older (parent_of x))
    unfolding read_layers
    read-same want x older e = ap (λ t. cond t (option_or (block_of x) (read older (parent_of x))) (read older want))
        (is_named-same want (name_of x) e)

    -- no name has no block
    pub read-none : (xs : List X) → read xs None ≡ None
    unfolding read_layers
    read-none [] = refl
    read-none (x ∷ xs) = read-none xs

    -- layers of other names are passed over
    pub read-past : (name : List ℕ) (xs rest : List X) → No name xs → read (xs ++ rest) (Some name) ≡ read rest (Some name)
    read-past name [] rest h = refl
    read-past name (x ∷ xs) rest h = read-other (Some name) x (xs ++ rest) (λ e. let same : name ≡ name_of x = cc in
        h.0 (sym same)) ∙ read-past name xs rest h.1

    -- likewise for a parent, if there is one
    pub read-past_parent : (parent : Option (List ℕ)) (xs rest : List X) → Above parent xs → read (xs ++ rest) parent ≡ read rest parent
    read-past_parent None xs rest h = read-none (xs ++ rest) ∙ sym (read-none rest)
    read-past_parent (Some name) xs rest h = read-past name xs rest h

    -- newer layers that don't stand on the name read alike over layers that read alike but from that name
    pub read-over : (name : List ℕ) (xs old new : List X) → Childless name xs
        → ((w : Option (List ℕ)) → w ≢ Some name → read new w ≡ read old w) → (want : Option (List ℕ)) → want ≢ Some name
        → read (xs ++ new) want ≡ read (xs ++ old) want
    read-over name [] old new h same want n = same want n
    read-over name (x ∷ xs) old new h same want n =
        ⊎_elim
        (λ e. read-same want x (xs ++ new) e ∙ ap (option_or (block_of x)) (read-over name xs old new h.1 same (parent_of x) h.0)
        ∙ sym (read-same want x (xs ++ old) e))
        (λ e. read-other want x (xs ++ new) e ∙ read-over name xs old new h.1 same want n ∙ sym (read-other want x (xs ++ old) e))
        (cases_named want (name_of x))

    option_or_assoc : (a b c : Option B) → option_or (option_or a b) c ≡ option_or a (option_or b c)
    option_or_assoc None b c = refl
    option_or_assoc (Some a) b c = refl

    -- c, then its parent p further on, each as it was (c, p) and as it is (d, q)
    module _ (xs ys zs : List X) (c p d q : X) (on : parent_of c ≡ Some (name_of p))
        (childless_xs : Childless (name_of p) xs) (childless_ys : Childless (name_of p) ys) (absent_ys : No (name_of p) ys)
        (d_name : name_of d ≡ name_of c) where
      -- c's own block, or else what p reads as
      from_c : (w : Option (List ℕ)) → w ≡ Some (name_of c)
          → read (c ∷ (ys ++ (p ∷ zs))) w ≡ option_or (block_of c) (option_or (block_of p) (read zs (parent_of p)))
      from_c w e = read-same w c (ys ++ (p ∷ zs)) e
          ∙ ap (option_or (block_of c)) (ap (read (ys ++ (p ∷ zs))) on ∙ read-past (name_of p) ys (p ∷ zs) absent_ys
          ∙ read-same (Some (name_of p)) p zs refl)

      -- c's block goes onto its parent p: no layer but p reads otherwise
      pub fold_keeps : parent_of d ≡ parent_of c → name_of q ≡ name_of p → parent_of q ≡ parent_of p
          → option_or (block_of d) (block_of q) ≡ option_or (block_of c) (block_of p) → (want : Option (List ℕ))
          → want ≢ Some (name_of p) → read (xs ++ (d ∷ (ys ++ (q ∷ zs)))) want ≡ read (xs ++ (c ∷ (ys ++ (p ∷ zs)))) want
      fold_keeps d_parent q_name q_parent moved =
          read-over (name_of p) xs (c ∷ (ys ++ (p ∷ zs))) (d ∷ (ys ++ (q ∷ zs))) childless_xs (λ w n.
          ⊎_elim
          (λ e. read-same w d (ys ++ (q ∷ zs)) (e ∙ ap (λ (x : List ℕ). Some x) (sym d_name))
          ∙ ap (option_or (block_of d)) (ap (read (ys ++ (q ∷ zs))) (d_parent ∙ on)
          ∙ read-past (name_of p) ys (q ∷ zs) absent_ys
          ∙ read-same (Some (name_of p)) q zs (ap (λ (x : List ℕ). Some x) (sym q_name))
          ∙ ap (λ (r : Option (List ℕ)). option_or (block_of q) (read zs r)) q_parent)
          ∙ sym (option_or_assoc (block_of d) (block_of q) (read zs (parent_of p)))
          ∙ ap (λ (b : Option B). option_or b (read zs (parent_of p))) moved
          ∙ option_or_assoc (block_of c) (block_of p) (read zs (parent_of p))
          ∙ sym (from_c w e))
          (λ e. read-other w d (ys ++ (q ∷ zs)) (λ f. e (f ∙ ap (λ (x : List ℕ). Some x) d_name))
          ∙ read-over (name_of p) ys (p ∷ zs) (q ∷ zs) childless_ys
          (λ v m. read-other v q zs (λ f. m (f ∙ ap (λ (x : List ℕ). Some x) q_name)) ∙ sym (read-other v p zs m)) w n
          ∙ sym (read-other w c (ys ++ (p ∷ zs)) e))
          (cases_named w (name_of c)))

      -- p is taken out, and c gets p's parent, and p's block where it has none of its own
      pub replace_keeps : parent_of d ≡ parent_of p → block_of d ≡ option_or (block_of c) (block_of p)
          → Above (parent_of p) ys → (want : Option (List ℕ)) → want ≢ Some (name_of p)
          → read (xs ++ (d ∷ (ys ++ zs))) want ≡ read (xs ++ (c ∷ (ys ++ (p ∷ zs)))) want
      replace_keeps d_parent d_block above =
          read-over (name_of p) xs (c ∷ (ys ++ (p ∷ zs))) (d ∷ (ys ++ zs)) childless_xs (λ w n.
          ⊎_elim
          (λ e. read-same w d (ys ++ zs) (e ∙ ap (λ (x : List ℕ). Some x) (sym d_name))
          ∙ ap (option_or (block_of d)) (ap (read (ys ++ zs)) d_parent ∙ read-past_parent (parent_of p) ys zs above)
          ∙ ap (λ (b : Option B). option_or b (read zs (parent_of p))) d_block
          ∙ option_or_assoc (block_of c) (block_of p) (read zs (parent_of p))
          ∙ sym (from_c w e))
          (λ e. read-other w d (ys ++ zs) (λ f. e (f ∙ ap (λ (x : List ℕ). Some x) d_name))
          ∙ read-over (name_of p) ys (p ∷ zs) zs childless_ys (λ v m. sym (read-other v p zs m)) w n
          ∙ sym (read-other w c (ys ++ (p ∷ zs)) e))
          (cases_named w (name_of c)))

    -- a layer on which none stands is taken out
    pub drop_keeps : (xs zs : List X) (p : X) → Childless (name_of p) xs → (want : Option (List ℕ))
        → want ≢ Some (name_of p) → read (xs ++ zs) want ≡ read (xs ++ (p ∷ zs)) want
    drop_keeps xs zs p childless = read-over (name_of p) xs (p ∷ zs) zs childless (λ v m. sym (read-other v p zs m))

    -- one layer of a walk from the newest on
    pub read-at_same : (xs : List X) (i : ℕ) (x : X) (want : List ℕ) → i < length xs → x ≡ get_or xs i x
        → bytes_eq want (name_of x) ≡ true → read (drop i xs) (Some want) ≡ option_or (block_of x)
        (read (drop (i + 1) xs) (parent_of x))
    unfolding read_layers
    read-at_same xs i x want h is named =
        ap (λ (ys : List X). read ys (Some want)) (drop-cons xs i x h ∙ ap (λ (y : X). y ∷ drop (suc i) xs) (sym is))
        ∙ ap (λ t. cond t (option_or (block_of x) (read (drop (suc i) xs) (parent_of x))) (read (drop (suc i) xs) (Some want))) named
        ∙ (let e : suc i ≡ i + 1 = omega arith in ap (λ (n : ℕ). option_or (block_of x) (read (drop n xs) (parent_of x))) e)

    pub read-at_other : (xs : List X) (i : ℕ) (x : X) (want : List ℕ) → i < length xs → x ≡ get_or xs i x
        → bytes_eq want (name_of x) ≡ false → read (drop i xs) (Some want) ≡ read (drop (i + 1) xs) (Some want)
    unfolding read_layers
    read-at_other xs i x want h is named =
        ap (λ (ys : List X). read ys (Some want)) (drop-cons xs i x h ∙ ap (λ (y : X). y ∷ drop (suc i) xs) (sym is))
        ∙ ap (λ t. cond t (option_or (block_of x) (read (drop (suc i) xs) (parent_of x))) (read (drop (suc i) xs) (Some want))) named
        ∙ (let e : suc i ≡ i + 1 = omega arith in ap (λ (n : ℕ). read (drop n xs) (Some want)) e)

    pub read-end : (xs : List X) (i : ℕ) (want : List ℕ) → length xs ≤ i → read (drop i xs) (Some want) ≡ None
    unfolding read_layers
    read-end xs i want h = ap (λ (ys : List X). read ys (Some want)) (drop_all i xs h)

    -- a layer that reads alike takes another's place
    pub read-alike : (xs ys : List X) (c d : X) → name_of d ≡ name_of c → parent_of d ≡ parent_of c
        → block_of d ≡ block_of c → (want : Option (List ℕ)) → read (xs ++ (d ∷ ys)) want ≡ read (xs ++ (c ∷ ys)) want
    unfolding read_layers
    read-alike [] ys c d e f g want =
        ap (λ (n : List ℕ). cond (is_named want n) (option_or (block_of d) (read ys (parent_of d))) (read ys want)) e
        ∙ ap (λ (b : Option B). cond (is_named want (name_of c)) (option_or b (read ys (parent_of d))) (read ys want)) g
        ∙ ap (λ (n : Option (List ℕ)). cond (is_named want (name_of c)) (option_or (block_of c) (read ys n)) (read ys want))
        f
    read-alike (x ∷ xs) ys c d e f g want =
        ap (λ (r : Option B). cond (is_named want (name_of x)) (option_or (block_of x) r) (read (xs ++ (d ∷ ys)) want))
        (read-alike xs ys c d e f g (parent_of x))
        ∙ ap (λ (r : Option B). cond (is_named want (name_of x)) (option_or (block_of x) (read (xs ++ (c ∷ ys)) (parent_of x))) r)
        (read-alike xs ys c d e f g want)
