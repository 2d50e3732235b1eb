-- What calls to shelves make of what these tell, one after another.
use Rattle.std.proofs.Common.{Option, Some, None, Result, Ok, Err, OnOk}
use Rattle.shelf_traits.specs.Files.{Files, Both}

-- two calls
pub both_then : (a b c : Option Files) (P Q R : Files → Files → Type 0) → Both a b P → Both b c Q
    → ((x y z : Files) → P x y → Q y z → R x z) → Both a c R
both_then None None None P Q R p q join = tt
both_then None None (Some z) P Q R p q join = absurd q
both_then None (Some y) c P Q R p q join = absurd p
both_then (Some x) None c P Q R p q join = absurd p
both_then (Some x) (Some y) None P Q R p q join = absurd q
both_then (Some x) (Some y) (Some z) P Q R p q join = join x y z p q

-- what follows of one call
pub both_map : (a b : Option Files) (P Q : Files → Files → Type 0) → Both a b P → ((x y : Files) → P x y → Q x y) → Both a b Q
both_map None None P Q p f = tt
both_map None (Some y) P Q p f = absurd p
both_map (Some x) None P Q p f = absurd p
both_map (Some x) (Some y) P Q p f = f x y p

-- two facts of one call
pub both_and : (a b : Option Files) (P Q : Files → Files → Type 0) → Both a b P → Both a b Q → Both a b (λ x y. P x y × Q x y)
both_and None None P Q p q = tt
both_and None (Some y) P Q p q = absurd p
both_and (Some x) None P Q p q = absurd p
both_and (Some x) (Some y) P Q p q = (p, q)

-- what is told of the files before, where they are told later too
pub first_half : (a b c : Option Files) (P : Files → Type 0) (Q : Files → Files → Type 0) → Both a b (λ x y. P x) → Both a c Q
    → Both a c (λ x z. P x)
first_half None b None P Q p q = tt
first_half None b (Some z) P Q p q = absurd q
first_half (Some x) b None P Q p q = absurd q
first_half (Some x) None (Some z) P Q p q = absurd p
first_half (Some x) (Some y) (Some z) P Q p q = p

pub on_ok : {T E : Type 0} (r : Result T E) (P : Type 0) → P → OnOk r P
on_ok (Ok v) P p = p
on_ok (Err e) P p = tt
