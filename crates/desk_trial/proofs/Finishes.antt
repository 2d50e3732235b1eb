-- What a call of `finish` leaves, for a seat of the stream.
use Rattle.std.proofs.Common.{◌≡◌, ◌≢◌, ℕ, List, [], ◌∷◌, ◌++◌, length, get_or, set, Option, Some, None, Result, Ok}
use Rattle.std.proofs.Common.{Err, OnOk, OnErr, refl, sym, ap, ◌∙◌, subst, append-nil, length-set, get_or-set_other}
use Rattle.std.proofs.Common.{cond, Bool, eq-eqb}
use Rattle.desk_lock.specs.Account.{Each, entries_of, Finds, MayLeave}
use Rattle.desk_lock.specs.Known.{Fits}
use Rattle.desk_lock.specs.declared.views.Known.{Known}
use Rattle.desk_lock.specs.declared.seats.Seat.{Seat}
use Rattle.desk_lock.specs.Seats.{known, number_of, last_of, IsInTurn, HasLeft}
use Rattle.desk_lock.proofs.Lists.{entries_of-append, Each-all}
use Rattle.desk_lock.proofs.Workers.{may_leave_at, finds_own}
use Rattle.desk_trial.specs.declared.book.Book.{Book}
use Rattle.desk_trial.specs.Books.{book_account, note_of, notes_in, streams_of, calls_in, call_of}

pub record Finished {E : Type 0} (x y : Book) (n v : ℕ) (r : Result (Unit {0}) E) : Type 0 where
  pub may : MayLeave book_account (Some n) x y
  pub inside : streams_of y ≡ streams_of x
  pub mine : OnOk r (notes_in n y ≡ notes_in n x ++ note_of n v ∷ [])
  pub err : OnErr r (notes_in n y ≡ notes_in n x)

own-one : (n v : ℕ) → entries_of book_account n (note_of n v ∷ []) ≡ note_of n v ∷ []
own-one n v = ap (λ (b : Bool). cond b (note_of n v ∷ []) []) (eq-eqb n n refl)

counts_on_nothing : (x y : Book) (n : ℕ) → (m : ℕ) → Some n ≢ Some m → Each (λ c. book_account.counts_on c x y) (book_account.running x m)
counts_on_nothing x y n m other = Each-all (λ c. book_account.counts_on c x y) (λ c. tt) (book_account.running x m)

pub finished : {E : Type 0} (x y : Book) (n v : ℕ) (r : Result (Unit {0}) E) → book_account.sound y → call_of x n ≡ Some v
    → OnOk r ((z : ℕ) → call_of x n ≡ Some z → (y.notes.items ≡ x.notes.items ++ note_of n z ∷ [])
    × (y.begun.items ≡ set x.begun.items n None))
    → OnErr r ((y.notes.items ≡ x.notes.items) × (y.begun.items ≡ x.begun.items)) → Finished x y n v r
finished x y n v (Ok u) ok is done err = let t = done v is in record {
  may = record {
    sound = ok;
    same_origin = ap length t.1 ∙ length-set x.begun.items n None;
    added = (note_of n v ∷ [], t.0, (refl, tt));
    others = λ m other. ap (λ (cs : List (Option ℕ)). calls_in (get_or cs m None)) t.1
        ∙ ap calls_in (get_or-set_other x.begun.items n m None None (λ e. other (ap Some (sym e))));
    counted = counts_on_nothing x y n;
  };
  inside = ap length t.1 ∙ length-set x.begun.items n None;
  mine = ap (entries_of book_account n) t.0
      ∙ (entries_of-append book_account n x.notes.items (note_of n v ∷ []) ∙ ap (λ es. notes_in n x ++ es) (own-one n v));
  err = tt;
}
finished x y n v (Err e) ok is done err = record {
  may = record {
    sound = ok;
    same_origin = ap length err.1;
    added = ([], err.0 ∙ sym (append-nil x.notes.items), tt);
    others = λ m other. ap (λ (cs : List (Option ℕ)). calls_in (get_or cs m None)) err.1;
    counted = counts_on_nothing x y n;
  };
  inside = ap length err.1;
  mine = tt;
  err = ap (entries_of book_account n) err.0;
}

some_of : (c : Option ℕ) (v : ℕ) → calls_in c ≡ v ∷ [] → c ≡ Some v
some_of None v e = let f : [] ≡ v ∷ [] = e in absurd (cc)
some_of (Some w) v e = let f : w ∷ [] ≡ v ∷ [] = e in let g : w ≡ v = cc in ap Some g

-- a turn in which the call of the seat's stream was ended: s before it, t in it, u after it
module _ {E : Type 0} (s t : Seat Book) (x y : Book) (n v : ℕ) (r : Result (Unit {0}) E) (turn : IsInTurn s x t) (me : number_of s ≡ Some n)
    (fits : Fits book_account x (known s)) (begun : call_of (last_of s) n ≡ Some v) (ok : book_account.sound y)
    (done : OnOk r ((z : ℕ) → call_of x n ≡ Some z → (y.notes.items ≡ x.notes.items ++ note_of n z ∷ [])
    × (y.begun.items ≡ set x.begun.items n None)))
    (err : OnErr r ((y.notes.items ≡ x.notes.items) × (y.begun.items ≡ x.begun.items))) where
  own : Finds book_account (Some n) x (last_of s)
  own = finds_own book_account s x n fits me

  pub still_begun : call_of x n ≡ Some v
  still_begun = some_of (call_of x n) v (own.running ∙ ap calls_in begun)

  end : Finished x y n v r
  end = finished x y n v r ok still_begun done err

  pub may_leave : MayLeave book_account (number_of t) (last_of t) y
  may_leave = may_leave_at book_account s t x y turn (subst (λ (m : Option ℕ). MayLeave book_account m x y) (sym me) end.may)

  module _ (u : Seat Book) (left : HasLeft t y u) where
    last_is : last_of u ≡ y
    last_is = ap (λ (k : Known Book). k.last) left.1

    pub still_inside : streams_of (last_of u) ≡ streams_of (last_of s)
    still_inside = ap streams_of last_is ∙ (end.inside ∙ own.same_origin)

    pub one_more : (z : ℕ) → call_of (last_of s) n ≡ Some z → OnOk r (notes_in n (last_of u) ≡ notes_in n (last_of s) ++ note_of n z ∷ [])
    one_more z is = by_result r end.mine
      where
        z_is : v ≡ z
        z_is = let f : Some v ≡ Some z = sym begun ∙ is in cc

        by_result : (r : Result (Unit {0}) E) → OnOk r (notes_in n y ≡ notes_in n x ++ note_of n v ∷ [])
            → OnOk r (notes_in n (last_of u) ≡ notes_in n (last_of s) ++ note_of n z ∷ [])
        by_result (Ok _) h = ap (notes_in n) last_is ∙ (h ∙ (λ i. own.mine i ++ note_of n (z_is i) ∷ []))
        by_result (Err _) h = tt

    pub none_more : OnErr r (notes_in n (last_of u) ≡ notes_in n (last_of s))
    none_more = by_result r end.err
      where
        by_result : (r : Result (Unit {0}) E) → OnErr r (notes_in n y ≡ notes_in n x)
            → OnErr r (notes_in n (last_of u) ≡ notes_in n (last_of s))
        by_result (Ok _) h = tt
        by_result (Err _) h = ap (notes_in n) last_is ∙ (h ∙ own.mine)
