-- Putting the state back and passing the turn on keep the rule of a desk, where that state may be put back. So do the steps
-- between them that publish the length of its journal.
use Rattle.std.proofs.Common.{◌≡◌, ◌≢◌, ℕ, ◌+◌, ◌%◌, ◌^◌, ◌<◌, ◌≤◌, List, [], ◌∷◌, length, set, get_or, Option, Some, None}
use Rattle.std.proofs.Common.{refl, sym, ap, ◌∙◌, subst, inl, arith, length-set, length-append}
use mathlib.Core.Option.{some}
use mathlib.Core.Option as maybe
use Rattle.atomic_table.specs.Table.{State, step, keeps, gives, put_back, rest, Allows}
use Rattle.desk_lock.specs.declared.views.Known.{Known}
use Rattle.desk_lock.specs.declared.views.View.{View}
use Rattle.desk_lock.specs.declared.views.View.TheVariants.{Knows}
use Rattle.desk_lock.specs.declared.views.Stage.{Stage}
use Rattle.desk_lock.specs.declared.views.Stage.TheVariants.{Idle, Waits, Holds, Back}
use Rattle.desk_lock.specs.Account.{Account, Each, Finds, IsSilent, MayLeave}
use Rattle.desk_lock.specs.Known.{staged, knowing, FindsEach}
use Rattle.desk_lock.specs.Rule.{Place, ticket, has_ticket, holds_it, out_of, Says, SaysAt, OnStage, Placed}
use Rattle.desk_lock.specs.Rule.{compared, passed, published, ended}
use Rattle.desk_lock.proofs.Lists.{Each-zip, outs-set, seats_stay, apart_stays}
use Rattle.desk_lock.proofs.Stages.{wraps, knows_is, same_known, told_is, slot_is, lies_still, R, Sits, finds_self, unmoved, told_stays}
use Rattle.desk_lock.proofs.Later.{finds_later, silent_later}

-- how another seat stands once the turn is over, or the state is back
module _ {S : Type 0} where
  on_later : (served drawn served' : ℕ) (now y : S) (homes homes' : List (maybe.Option (Option S))) (last : S) (st : Stage)
      → served' ≤ served + 1 → OnStage served drawn now homes last st → ¬ (ticket st ≡ Some served)
      → OnStage served' drawn y homes' last st
  on_later served drawn served' now y homes homes' last Idle le on other = tt
  on_later served drawn served' now y homes homes' last (Waits b) le on other =
      let ne : b ≢ served = λ e. other (ap Some e) in let h = on.0 in (omega arith, on.1)
  on_later served drawn served' now y homes homes' last (Holds b) le on other = absurd (other (ap Some on.0))
  on_later served drawn served' now y homes homes' last (Back b) le on other = absurd (other (ap Some on.0))

module _ {S Entry OpenCall Origin : Type 0} (account : Account S Entry OpenCall Origin) where
  -- the seat id, which took the state, makes y of it
  module _ (s : State (Option S) (View S)) (r : R account s) (id : ℕ) (v : Known S) (at : SaysAt s.views id v) (y : S)
      (may : MayLeave account v.number v.last y) (same : v.last ≡ r.now) where
    longer : (n : ℕ) → n ≤ length (account.journal r.now) → n ≤ length (account.journal y)
    longer n le = let is = ap (λ (x : S). length (account.journal x)) same in
        let more = ap length may.added.1 ∙ length-append (account.journal v.last) may.added.0 in omega arith

    not_mine : (m : Option ℕ) → Placed account r.made r.seat_of r.now id v m → (n : ℕ) → r.made ≤ n → ¬ (m ≡ Some n)
    not_mine None p n le e = let f : None ≡ Some n = e in absurd (cc)
    not_mine (Some m) p n le e = let f : Some m ≡ Some n = e in let g : m ≡ n = cc in let h = p.0 in omega arith

    seat_of_mine : (m : Option ℕ) (n : ℕ) → Placed account r.made r.seat_of r.now id v m → m ≡ Some n → (r.seat_of n ≡ id) × (id ≢ 0)
    seat_of_mine None n p e = let f : None ≡ Some n = e in absurd (cc)
    seat_of_mine (Some m) n p e = let f : Some m ≡ Some n = e in let g : m ≡ n = cc in (ap r.seat_of (sym g) ∙ p.1, p.2)

    -- what another seat found in the state that was taken, it finds in the one that is put back
    later : (other : Option ℕ) (z : S) → ((n : ℕ) → other ≡ Some n → v.number ≢ Some n)
        → Finds account other r.now z → Finds account other y z
    later other z apart f = finds_later account v.number v.last y may other z apart
        (subst (λ (x : S). Finds account other x z) (sym same) f)

    refit : (js : List (ℕ × S)) → ((n : ℕ) → r.seat_of n ≡ 0 → v.number ≢ Some n) → FindsEach account r.now js
        → Each (λ (p : ℕ × S). (p.0 < r.made) × (r.seat_of p.0 ≡ 0)) js → FindsEach account y js
    refit js other fits placed = Each-zip
        (λ (p : ℕ × S). Finds account (Some p.0) r.now p.1)
        (λ (p : ℕ × S). (p.0 < r.made) × (r.seat_of p.0 ≡ 0))
        (λ (p : ℕ × S). Finds account (Some p.0) y p.1)
        (λ p f q. later (Some p.0) p.1 (λ n e. let g : Some p.0 ≡ Some n = e in let is : p.0 ≡ n = cc in
        other n (ap r.seat_of (sym is) ∙ q.1)) f) js fits placed

    placed_mine : (st : Stage) (m : Option ℕ) → v.number ≡ m → Placed account r.made r.seat_of r.now id v m
        → Placed account r.made r.seat_of y id (knowing v y st) m
    placed_mine st None e p = (
      p.0,
      p.1,
      refit v.joined (λ n _ f. let g : None ≡ Some n = sym e ∙ f in absurd (cc)) p.2 p.3,
      p.3,
      λ n le. silent_later account v.number v.last y may n (λ f. let g : None ≡ Some n = sym e ∙ f in absurd (cc)) (p.4 n le),
    )
    placed_mine st (Some m) e p = p

    no_other : Placed account r.made r.seat_of r.now id v v.number → (j : ℕ) (u : Known S) → j ≢ id → (m : Option ℕ)
        → Placed account r.made r.seat_of r.now j u m → (n : ℕ) → m ≡ Some n → v.number ≢ Some n
    no_other mine j u ne None p n e f = let g : None ≡ Some n = e in absurd (cc)
    no_other mine j u ne (Some m) p n e f = let g : Some m ≡ Some n = e in let is : m ≡ n = cc in
        ne (sym p.1 ∙ (ap r.seat_of is ∙ (seat_of_mine v.number n mine f).0))

    placed_other : Placed account r.made r.seat_of r.now id v v.number → (j : ℕ) (u : Known S) (m : Option ℕ)
        → Placed account r.made r.seat_of r.now j u m → Placed account r.made r.seat_of y j u m
    placed_other mine j u None p = (
      p.0,
      p.1,
      refit u.joined (λ n z e. let f = seat_of_mine v.number n mine e in f.1 (sym f.0 ∙ z)) p.2 p.3,
      p.3,
      p.4,
    )
    placed_other mine j u (Some m) p = p

    -- it is put back, the length of its journal is in the word, and the turn either goes on or is over
    put_home : (ws : List ℕ) (hs : List (maybe.Option (Option S))) (served : ℕ) (st : Stage)
        → ws ≡ (r.drawn % 2 ^ 64) ∷ (served % 2 ^ 64) ∷ length (account.journal y) ∷ [] → hs ≡ some (Some y) ∷ []
        → v.stage ≡ Holds r.served → served + has_ticket st ≡ r.served + 1 → OnStage served r.drawn y hs y st
        → ((b : ℕ) → ticket st ≡ Some b → r.served ≡ b)
        → R account record { words = ws; homes = hs; views = set s.views id (Knows (knowing v y st) at.0) }
    put_home ws hs served st words full holds count on only =
        let w : Known S = knowing v y st in
        let told : ℕ = at.0 in
        let mine = r.each_seat id v at in
        let sum = outs-set s.views id (Knows v told) (Knows w told) at.1 in
        let one : out_of (Knows v told) ≡ 1 = ap has_ticket holds in
        let all = r.counted in record {
          served = served;
          drawn = r.drawn;
          made = r.made;
          seat_of = r.seat_of;
          now = y;
          words = words;
          counted = omega arith;
          wide = length-set s.views id (Knows w told) ∙ r.wide;
          few = r.few;
          lies = inl full;
          sound = may.sound;
          each_seat = seats_stay (Sits account served r.drawn r.made r.seat_of y hs) s.views id (Knows w told)
              (λ u e. subst (Sits account served r.drawn r.made r.seat_of y hs id) (knows_is w told u e)
              record { finds = finds_self account v.number y; on_stage = on; placed = placed_mine st v.number refl mine.placed })
              (λ j u ne there. let t = r.each_seat j u there in
              record {
                finds = later u.number u.last (no_other mine.placed j u ne u.number t.placed) t.finds;
                on_stage = on_later r.served r.drawn served r.now y s.homes hs u.last u.stage (omega arith) t.on_stage
                    (λ e. ne (r.apart j id u v r.served there at e (ap ticket holds)));
                placed = placed_other mine.placed j u u.number t.placed;
              });
          told = told_stays account r.now y s.views id (Knows v told) (Knows w told) r.told at.1 longer (λ le. le);
          apart = apart_stays s.views id (Knows w told) r.apart (λ x u b j e xt ne there ut.
              let mine : r.served ≡ b = only b (ap (λ (z : Known S). ticket z.stage) (knows_is w told x e) ∙ xt) in
              ne (r.apart j id u v b there at ut (ap ticket holds ∙ ap Some mine)));
          silent = λ n le. silent_later account v.number v.last y may n (not_mine v.number mine.placed n le)
              (subst (IsSilent account n) (sym same) (r.silent n le));
        }

  -- who has the state has it as it was taken, whose length is published
  pub compares : (slots id : ℕ) (me : Place S)
      → Allows (R account) slots id me 2 (λ n. n) (compared account (step slots 2 0 0 maybe.none) me)
  compares slots id me s r _ at _ = (
    me.0,
    keeps,
    tt,
    unmoved account s 2 id me.1 me.0 r at,
    (
      refl,
      λ v told a is holds. let on = subst (OnStage r.served r.drawn r.now s.homes v.last) holds
          (r.each_seat id v (told, at ∙ ap some is)).on_stage in
          ap (λ (ws : List ℕ). get_or ws 2 0) r.words ∙ ap (λ (x : S). length (account.journal x)) (sym on.3),
    ),
  )

  -- Of one whose turn it is: its ticket is served, the state is out with it, and is back once it gives it.
  module _ (s : State (Option S) (View S)) (r : R account s) (id : ℕ) (v : Known S) (at : SaysAt s.views id v) (a : ℕ)
      (holds : v.stage ≡ Holds a) (y : S) (carried : List (ℕ × Option S)) (has : carried ≡ (0, Some y) ∷ []) where
    turn : OnStage r.served r.drawn r.now s.homes v.last (Holds a)
    turn = subst (OnStage r.served r.drawn r.now s.homes v.last) holds (r.each_seat id v at).on_stage

    full : put_back s.homes carried ≡ some (Some y) ∷ []
    full = ap (put_back s.homes) has ∙ ap (λ (hs : List (maybe.Option (Option S))). set hs 0 (some (Some y))) turn.2

  pub passes : (slots id : ℕ) (me : Place S) (v : Known S) (a : ℕ) (y : S) → Says me.0 v → v.stage ≡ Holds a
      → me.1 ≡ (0, Some y) ∷ [] → MayLeave account v.number v.last y
      → length (account.journal y) ≡ length (account.journal v.last)
      → Allows (R account) slots id me 1 (λ n. (n + 1) % 2 ^ 64) (passed (step slots 1 1 0 maybe.none) me)
  passes slots id me v a y is holds carried may long s r _ at _ =
      let told : ℕ = is.0 in
      let at' : SaysAt s.views id v = (told, at ∙ ap some is.1) in
      let on = turn s r id v at' a holds y me.1 carried in
      let served : ℕ = r.served + 1 in
      let still : length (account.journal r.now) ≡ length (account.journal y) =
      sym (long ∙ ap (λ (x : S). length (account.journal x)) on.3) in (
        Knows (knowing v y Idle) told,
        gives,
        tt,
        put_home s r id v at' y may on.3 (set s.words 1 ((get_or s.words 1 0 + 1) % 2 ^ 64)) (put_back s.homes me.1) served Idle
            (ap (λ (ws : List ℕ). set ws 1 ((get_or ws 1 0 + 1) % 2 ^ 64)) r.words
            ∙ (λ i. (r.drawn % 2 ^ 64) ∷ wraps r.served i ∷ still i ∷ []))
            (full s r id v at' a holds y me.1 carried) (holds ∙ ap Holds on.0) (omega arith) tt
            (λ b e. let f : None ≡ Some b = e in absurd (cc)),
        (
          ap rest carried,
          λ u other x e c. let g : y ≡ x = slot_is y x me.1 me.1 carried c refl in let now : Knows v told ≡ Knows u other = sym is.1 ∙ e in
              λ i. Knows (knowing (same_known v u told other now i) (g i) Idle) (told_is v u told other now i),
        ),
      )

  pub publishes : (slots id : ℕ) (me : Place S) (v : Known S) (a : ℕ) (y : S) (n : ℕ) → Says me.0 v → v.stage ≡ Holds a
      → me.1 ≡ (0, Some y) ∷ [] → MayLeave account v.number v.last y → n ≡ length (account.journal y)
      → Allows (R account) slots id me 2 (λ _. n) (λ _. published (step slots 2 n 0 maybe.none) me n)
  publishes slots id me v a y n is holds carried may long s r _ at _ =
      let told : ℕ = is.0 in
      let at' : SaysAt s.views id v = (told, at ∙ ap some is.1) in
      let on = turn s r id v at' a holds y me.1 carried in (
        Knows (knowing v y (Back a)) told,
        gives,
        tt,
        put_home s r id v at' y may on.3 (set s.words 2 n) (put_back s.homes me.1) r.served (Back a)
            (ap (λ (ws : List ℕ). set ws 2 n) r.words
            ∙ ap (λ (z : ℕ). (r.drawn % 2 ^ 64) ∷ (r.served % 2 ^ 64) ∷ z ∷ []) long)
            (full s r id v at' a holds y me.1 carried) (holds ∙ ap Holds on.0) refl (on.0, on.1)
            (λ b e. let f : Some a ≡ Some b = e in let g : a ≡ b = cc in sym on.0 ∙ g),
        (
          ap rest carried,
          λ u other b x e ub c. let g : y ≡ x = slot_is y x me.1 me.1 carried c refl in
              let now : Knows v told ≡ Knows u other = sym is.1 ∙ e in let same : v ≡ u = same_known v u told other now in
              let f : Holds a ≡ Holds b = sym holds ∙ (ap (λ (z : Known S). z.stage) same ∙ ub) in let h : a ≡ b = cc in
              λ i. Knows (knowing (same i) (g i) (Back (h i))) (told_is v u told other now i),
        ),
      )

  pub ends : (slots id : ℕ) (me : Place S) (v : Known S) (a : ℕ) → Says me.0 v → v.stage ≡ Back a
      → Allows (R account) slots id me 1 (λ n. (n + 1) % 2 ^ 64) (ended (step slots 1 1 0 maybe.none) me)
  ends slots id me v a is back s r _ at _ =
      let told : ℕ = is.0 in
      let at' : SaysAt s.views id v = (told, at ∙ ap some is.1) in
      let mine = r.each_seat id v at' in
      let on = subst (OnStage r.served r.drawn r.now s.homes v.last) back mine.on_stage in
      let served : ℕ = r.served + 1 in
      let w : Known S = staged v Idle in
      let sum = outs-set s.views id (Knows v told) (Knows w told) at'.1 in
      let one : out_of (Knows v told) ≡ 1 = ap has_ticket back in
      let all = r.counted in (
        Knows w told,
        keeps,
        tt,
        record {
          served = served;
          drawn = r.drawn;
          made = r.made;
          seat_of = r.seat_of;
          now = r.now;
          words = ap (λ (ws : List ℕ). set ws 1 ((get_or ws 1 0 + 1) % 2 ^ 64)) r.words
              ∙ ap (λ (z : ℕ). (r.drawn % 2 ^ 64) ∷ z ∷ length (account.journal r.now) ∷ []) (wraps r.served);
          counted = omega arith;
          wide = length-set s.views id (Knows w told) ∙ r.wide;
          few = r.few;
          lies = lies_still r.now s 1 ((get_or s.words 1 0 + 1) % 2 ^ 64) id me.1 (Knows v told) (Knows w told) r.lies at'.1
              (λ u e. ap (λ (z : Known S). holds_it z.stage) (sym (knows_is v told u e)) ∙ ap holds_it back);
          sound = r.sound;
          each_seat = seats_stay (Sits account served r.drawn r.made r.seat_of r.now s.homes) s.views id (Knows w told)
              (λ u e. subst (Sits account served r.drawn r.made r.seat_of r.now s.homes id) (knows_is w told u e)
              record { finds = mine.finds; on_stage = tt; placed = placed_still v.number mine.placed })
              (λ j u ne there. let t = r.each_seat j u there in
              record {
                finds = t.finds;
                on_stage = on_later r.served r.drawn served r.now r.now s.homes s.homes u.last u.stage (omega arith) t.on_stage
                    (λ e. ne (r.apart j id u v r.served there at' e (ap ticket back ∙ ap Some on.0)));
                placed = t.placed;
              });
          told = told_stays account r.now r.now s.views id (Knows v told) (Knows w told) r.told at'.1 (λ n le. le) (λ le. le);
          apart = apart_stays s.views id (Knows w told) r.apart
              (λ x u b j e xt ne there ut. let f : None ≡ Some b = ap (λ (z : Known S). ticket z.stage) (knows_is w told x e)
              ∙ xt in absurd (cc));
          silent = r.silent;
        },
        (
          refl,
          λ u other e. let now : Knows v told ≡ Knows u other = sym is.1 ∙ e in
              λ i. Knows (staged (same_known v u told other now i) Idle) (told_is v u told other now i),
        ),
      )
    where
      placed_still : (m : Option ℕ) → Placed account r.made r.seat_of r.now id v m
          → Placed account r.made r.seat_of r.now id (staged v Idle) m
      placed_still None p = p
      placed_still (Some m) p = p
