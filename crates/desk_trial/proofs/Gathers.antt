-- Lists of results that are taken one after another.
use Rattle.std.proofs.Common.{◌≡◌, ℕ, zero, suc, ◌<◌, true, map, Some, Option, Vec, Global, List, [], ◌∷◌, ◌++◌}
use Rattle.std.proofs.Common.{length, get_or, refl, sym, ap, ◌∙◌, subst, inl, inr, arith, append-nil, append_assoc}
use Rattle.std.proofs.lemmas.List.{length-map}
use Rattle.std.specs.Option.{IsSome, is_some}
use Rattle.desk_trial.specs.declared.book.Book.{Book}
use Rattle.desk_trial.specs.declared.each.Done.{Done}
use Rattle.desk_lock.specs.declared.seats.Desk.{Desk}
use Rattle.desk_trial.specs.declared.each.Job.{Job}
use Rattle.desk_lock.specs.Known.{HasNumber, FindsEach}
use Rattle.desk_lock.specs.Seats.{last_of, number_of, IsSeatOf}
use Rattle.desk_trial.specs.Books.{book_account, note_of, notes_in}
use Rattle.desk_trial.specs.Jobs.{HasPair, IsJob, IsDone}

-- a number that is known is one
pub some_is : (m : Option ℕ) (n : ℕ) → m ≡ Some n → IsSome m
some_is m n is = ap is_some is

module _ {A : Type 0} where
  -- what holds of each element by its place, and of one more
  pub each_snoc : (P : ℕ → A → Type 0) (xs : List A) (x : A) → ((k : ℕ) (d : A) → k < length xs → P k (get_or xs k d)) → P (length xs) x
      → (k : ℕ) (d : A) → k < length (xs ++ x ∷ []) → P k (get_or (xs ++ x ∷ []) k d)
  each_snoc P [] x all last zero d lt = last
  each_snoc P [] x all last (suc k) d lt = absurd (omega arith)
  each_snoc P (y ∷ ys) x all last zero d lt = all 0 d (omega arith)
  each_snoc P (y ∷ ys) x all last (suc k) d lt =
      each_snoc (λ (i : ℕ). P (suc i)) ys x (λ i e l. all (suc i) e (omega arith)) last k d (omega arith)

  pub at_middle : (xs : List A) (x : A) (ys : List A) (d : A) → get_or (xs ++ x ∷ ys) (length xs) d ≡ x
  at_middle [] x ys d = refl
  at_middle (y ∷ xs) x ys d = at_middle xs x ys d

  pub middle_below : (xs : List A) (x : A) (ys : List A) → length xs < length (xs ++ x ∷ ys)
  middle_below [] x ys = omega arith
  middle_below (y ∷ xs) x ys = let r = middle_below xs x ys in omega arith

  -- a fact about each element, at the one that comes after xs
  pub at_next : (P : ℕ → A → Type 0) (all xs ys rest : List A) (x : A) → xs ++ rest ≡ all → rest ≡ x ∷ ys
      → ((k : ℕ) (d : A) → k < length all → P k (get_or all k d)) → P (length xs) x
  at_next P all xs ys rest x whole is each = let e : xs ++ x ∷ ys ≡ all = ap (λ r. xs ++ r) (sym is) ∙ whole in
      subst (P (length xs)) (ap (λ l. get_or l (length xs) x) (sym e) ∙ at_middle xs x ys x)
      (each (length xs) x (subst (λ l. length xs < length l) e (middle_below xs x ys)))

  pub whole_next : (all xs ys rest : List A) (x : A) → xs ++ rest ≡ all → rest ≡ x ∷ ys → (xs ++ x ∷ []) ++ ys ≡ all
  whole_next all xs ys rest x whole is = append_assoc xs (x ∷ []) ys ∙ (ap (λ r. xs ++ r) (sym is) ∙ whole)

  pub whole_end : (all xs rest : List A) → xs ++ rest ≡ all → length rest ≡ 0 → xs ≡ all
  whole_end all xs [] whole none = sym (append-nil xs) ∙ whole
  whole_end all xs (x ∷ rest) whole none = absurd (omega arith)

pub has_number : (n : ℕ) (x : Book) (js : List (ℕ × Book)) → HasPair n x js → HasNumber n js
has_number n x [] has = has
has_number n x (p ∷ ps) (inl e) = inl e.0
has_number n x (p ∷ ps) (inr has) = inr (has_number n x ps has)

pub pair_fits : (b : Book) (js : List (ℕ × Book)) (n : ℕ) (x : Book) → FindsEach book_account b js → HasPair n x js
    → notes_in n b ≡ notes_in n x
pair_fits b [] n x fits has = absurd has
pair_fits b (p ∷ ps) n x fits (inl e) = subst (λ (z : ℕ × Book). notes_in z.0 b ≡ notes_in z.0 z.1) (λ i. (e.0 i, e.1 i)) fits.0.mine
pair_fits b (p ∷ ps) n x fits (inr has) = pair_fits b ps n x fits.1 has

module _ {A : Type 0} where
  pub element : (xs : List A) (k : ℕ) → k < length xs → A
  element [] k lt = absurd (omega arith)
  element (x ∷ xs) zero lt = x
  element (x ∷ xs) (suc k) lt = element xs k (omega arith)

  map_at : {B : Type 0} (f : A → B) (xs : List A) (n : ℕ) (x : A) (d : B) → n < length xs → get_or (map f xs) n d ≡ f (get_or xs n x)
  map_at f [] n x d lt = absurd (omega arith)
  map_at f (y ∷ ys) zero x d lt = refl
  map_at f (y ∷ ys) (suc n) x d lt = map_at f ys n x d (omega arith)

pub all_joined : (dones : List Done) (js : List (ℕ × Book)) (made : ℕ) → made ≡ length dones
    → ((k : ℕ) (d : Done) → k < length dones → HasPair k (last_of (get_or dones k d).seat) js)
    → (n : ℕ) → n < made → HasNumber n js
all_joined dones js made same pairs n lt = let lt' : n < length dones = omega arith in let e = element dones n lt' in
    has_number n (last_of (get_or dones n e).seat) js (pairs n e lt')

module _ (desk : Desk Book) (jobs : List Job) (dones : List Done) (len : length dones ≡ length jobs)
    (jobs_ok : (k : ℕ) (d : Job) → k < length jobs → IsJob desk (get_or jobs k d) × ((get_or jobs k d).stream ≡ k))
    (each : (k : ℕ) (d : Job) (e : Done) → k < length jobs → IsDone desk (get_or jobs k d) (get_or dones k e)) where
  pub all_done : (k : ℕ) (d : Done) → k < length dones → IsSeatOf desk (get_or dones k d).seat
      × (number_of (get_or dones k d).seat ≡ Some k)
  all_done k d lt = let lt' : k < length jobs = omega arith in let j = element jobs k lt' in let r = each k j d lt' in
      (r.seat, r.number ∙ ap Some (jobs_ok k j lt').1)

  pub each_done : (b : Book) (js : List (ℕ × Book)) (lists : List (Vec ℕ Global)) → map (λ (j : Job). j.values) jobs ≡ lists
      → FindsEach book_account b js
      → ((k : ℕ) (d : Done) → k < length dones → HasPair k (last_of (get_or dones k d).seat) js)
      → ((k : ℕ) (d : Done) → k < length dones → (get_or dones k d).ok ≡ true)
      → (n : ℕ) (d : Vec ℕ Global) → n < length lists → notes_in n b ≡ map (note_of n) (get_or lists n d).items
  each_done b js lists values fits pairs ok n d lt =
      let count : length (map (λ (j : Job). j.values) jobs) ≡ length jobs = length-map jobs (λ (j : Job). j.values) in
      let same_count = ap length values in
      let lt' : n < length jobs = omega arith in
      let lt'' : n < length dones = omega arith in
      let j = element jobs n lt' in
      let e = element dones n lt'' in
      let r = each n j e lt' in
      let stream = (jobs_ok n j lt').1 in
      let mine = subst (λ (s : ℕ). notes_in s (last_of (get_or dones n e).seat) ≡ map (note_of s) (get_or jobs n j).values.items) stream
      (r.mine (ok n e lt'')) in
      let list_is : get_or lists n d ≡ (get_or jobs n j).values = ap (λ l. get_or l n d) (sym values)
      ∙ map_at (λ (j : Job). j.values) jobs n j d lt' in
      pair_fits b js n (last_of (get_or dones n e).seat) fits (pairs n e lt'')
      ∙ (mine ∙ ap (λ (v : Vec ℕ Global). map (note_of n) v.items) (sym list_is))
