-- What seats that only look are told, and a turn in which nothing is done.
use Rattle.std.proofs.Common.{◌≡◌, ◌≤◌, ℕ, zero, suc, ◌==◌, Bool, true, false, cond, List, [], ◌∷◌, map, length, filter, refl, sym, ap, ◌∙◌}
use Rattle.std.proofs.Common.{append-nil, eq-eqb, arith, ◌<◌, get_or, Vec, Global, Result, Ok, Err, IfOk, lt_of_not-le}
use mathlib.Core.Logic.{dite}
use native.Mathlib.Decide.{dec_le}
use Rattle.std.proofs.lemmas.List.{length-map}
use Rattle.desk_lock.specs.declared.seats.Seat.{Seat}
use Rattle.desk_lock.specs.Account.{MayLeave, entries_of}
use Rattle.desk_lock.specs.Known.{Fits}
use Rattle.desk_lock.specs.Seats.{known, number_of, last_of, IsInTurn}
use Rattle.desk_lock.proofs.Lists.{Each-all}
use Rattle.desk_lock.proofs.Workers.{may_leave_at}
use Rattle.desk_trial.specs.declared.book.Book.{Book}
use Rattle.desk_trial.specs.declared.book.Note.{Note}
use Rattle.desk_trial.specs.Books.{book_account, note_of, notes_in}
use Rattle.desk_trial.proofs.Gathers.{element}

pub may_stay : (s t : Seat Book) (x : Book) → IsInTurn s x t → Fits book_account x (known s)
    → MayLeave book_account (number_of t) (last_of t) x
may_stay s t x turn fits = may_leave_at book_account s t x x turn record {
  sound = fits.sound;
  same_origin = refl;
  added = ([], sym (append-nil x.notes.items), tt);
  others = λ m other. refl;
  counted = λ m other. Each-all (λ c. book_account.counts_on c x x) (λ c. tt) (book_account.running x m);
}

filter-shorter : {A : Type 0} (p : A → Bool) (xs : List A) → length (filter p xs) ≤ length xs
filter-shorter p [] = omega arith
filter-shorter {A} p (x ∷ xs) = either_way (p x) (filter-shorter p xs)
  where
    either_way : (b : Bool) → length (filter p xs) ≤ length xs → length (cond b (x ∷ filter p xs) (filter p xs)) ≤ length (x ∷ xs)
    either_way true r = omega arith
    either_way false r = omega arith

-- where no other stream has a note, all are of the first
all_of_first : (es : List Note) → ((n : ℕ) → 1 ≤ n → entries_of book_account n es ≡ []) → length (entries_of book_account 0 es) ≡ length es
all_of_first [] none = refl
all_of_first (e ∷ es) none = by_stream (all_of_first es) e.stream refl
  where
    no_more : (n : ℕ) (b : Bool) → cond b (e ∷ entries_of book_account n es) (entries_of book_account n es) ≡ []
        → entries_of book_account n es ≡ []
    no_more n true h = let f : e ∷ entries_of book_account n es ≡ [] = h in absurd (cc)
    no_more n false h = h

    at : (n : ℕ) → n ≡ e.stream → entries_of book_account n (e ∷ es) ≡ e ∷ entries_of book_account n es
    at n is = ap (λ (b : Bool). cond b (e ∷ entries_of book_account n es) (entries_of book_account n es)) (eq-eqb n e.stream is)

    by_stream : (((n : ℕ) → 1 ≤ n → entries_of book_account n es ≡ []) → length (entries_of book_account 0 es) ≡ length es)
        → (s : ℕ) → e.stream ≡ s → length (entries_of book_account 0 (e ∷ es)) ≡ length (e ∷ es)
    by_stream rest zero is = ap length (at 0 (sym is)) ∙ ap suc (rest (λ n le. no_more n (n == e.stream) (none n le)))
    by_stream rest (suc m) is =
        let f : e ∷ entries_of book_account (suc m) es ≡ [] = sym (at (suc m) (sym is)) ∙ none (suc m) (omega arith) in absurd (cc)

-- what is between the notes of one stream and all that there are in the end, where that stream alone has notes
pub told_is : (told : ℕ) (x y : Book) (values : List ℕ) → length x.notes.items ≤ told → told ≤ length y.notes.items
    → notes_in 0 x ≡ map (note_of 0) values → notes_in 0 y ≡ notes_in 0 x → ((n : ℕ) → 1 ≤ n → notes_in n y ≡ [])
    → told ≡ length values
told_is told x y values low high made same others =
    let count = ap length made ∙ length-map values (note_of 0) in
    let some = filter-shorter (λ (e : Note). 0 == e.stream) x.notes.items in
    let all = all_of_first y.notes.items others in
    let more = ap length same in omega arith

-- where the lists from some place on are empty, no stream from there on has a note
module _ (lists : List (Vec ℕ Global)) (from : ℕ)
    (empty : (n : ℕ) (d : Vec ℕ Global) → n < length lists → from ≤ n → (get_or lists n d).items ≡ []) where
  none_behind : (b : Book)
      → ((n : ℕ) (d : Vec ℕ Global) → n < length lists → notes_in n b ≡ map (note_of n) (get_or lists n d).items)
      → ((n : ℕ) → length lists ≤ n → notes_in n b ≡ []) → (n : ℕ) → from ≤ n → notes_in n b ≡ []
  none_behind b each others n le = dite (dec_le (length lists) n) (others n)
      (λ not. let lt : n < length lists = lt_of_not-le not in let d = element lists n lt in
      each n d lt ∙ ap (map (note_of n)) (empty n d lt le))

  pub behind_all : {E : Type 0} (r : Result Book E)
      → IfOk r (λ b. (n : ℕ) (d : Vec ℕ Global) → n < length lists → notes_in n b ≡ map (note_of n) (get_or lists n d).items)
      → IfOk r (λ b. (n : ℕ) → length lists ≤ n → notes_in n b ≡ []) → IfOk r (λ b. (n : ℕ) → from ≤ n → notes_in n b ≡ [])
  behind_all (Ok b) each others = none_behind b each others
  behind_all (Err e) each others = tt
