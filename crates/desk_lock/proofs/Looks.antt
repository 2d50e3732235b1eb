-- A look at whose turn it is keeps the rule of a desk, and takes the state where it is the own. So does a look at the length
-- of the journal, which the seat is told.
use Rattle.std.proofs.Common.{◌≡◌, ℕ, ◌%◌, ◌^◌, ◌<◌, ◌≤◌, true, false, List, [], ◌∷◌, length, set, get_or, Option}
use Rattle.std.proofs.Common.{Some, None, refl, sym, ap, ◌∙◌, subst, inr, ⊎_elim, arith, length-set}
use mathlib.Core.Option.{some}
use mathlib.Core.Option as maybe
use mathlib.Core.Logic.{dite}
use native.Mathlib.Decide.{ℕ_discrete}
use lib.ListN.{get_elem?}
use lib.Seq.{set-get_or}
use Rattle.atomic_table.specs.Table.{State, step, keeps, takes, stepped, Allows}
use Rattle.atomic_table.proofs.Lists.{set_here, one_turn}
use Rattle.desk_lock.specs.declared.views.Known.{Known}
use Rattle.desk_lock.specs.declared.views.View.{View}
use Rattle.desk_lock.specs.declared.views.View.TheVariants.{Knows}
use Rattle.desk_lock.specs.declared.views.Stage.TheVariants.{Idle, Waits, Holds}
use Rattle.desk_lock.specs.Account.{Account, Finds, IsSilent}
use Rattle.desk_lock.specs.Known.{knowing, Fits, ReachesSeen}
use Rattle.desk_lock.specs.Rule.{Place, ticket, has_ticket, holds_it, out_of, Says, SaysAt, looked, learned, recalled, OnStage, Placed}
use Rattle.desk_lock.proofs.Lists.{begins_longer, Each-map, outs-set, outs-le, seats_stay, apart_stays, at_below}
use Rattle.desk_lock.proofs.Stages.{ticket_of_holder, knows_is, same_known, told_is, one_view, ticket_within, taken, lies_still}
use Rattle.desk_lock.proofs.Stages.{R, Sits, finds, unmoved, finds_self, told_stays, heard_of}

module _ {S Entry OpenCall Origin : Type 0} (account : Account S Entry OpenCall Origin) where
  looks_in_turn : (s : State (Option S) (View S)) (r : R account s) (id : ℕ) (cs : List (ℕ × Option S)) (v : Known S)
      → (at : SaysAt s.views id v) → v.stage ≡ Waits r.served → s.homes ≡ some (Some r.now) ∷ []
      → R account (stepped s 1 (get_or s.words 1 0) id cs (Knows (knowing v r.now (Holds r.served)) at.0) (takes 0 (Some r.now)))
  looks_in_turn s r id cs v at waits home =
      let w : Known S = knowing v r.now (Holds r.served) in
      let told : ℕ = at.0 in
      let empty : set s.homes 0 maybe.none ≡ maybe.none ∷ [] = ap (λ (hs : List (maybe.Option (Option S))). set hs 0 maybe.none) home in
      let mine = r.each_seat id v at in
      let within = ticket_within r.served r.drawn r.now s.homes v.last v.stage r.served mine.on_stage (ap ticket waits) in
      let sum = outs-set s.views id (Knows v told) (Knows w told) at.1 in
      let one : out_of (Knows v told) ≡ 1 = ap has_ticket waits in
      let all = r.counted in
      let wide = r.wide in
      let inside : id < length s.views = at_below s.views id (Knows v told) at.1 in record {
        served = r.served;
        drawn = r.drawn;
        made = r.made;
        seat_of = r.seat_of;
        now = r.now;
        words = set-get_or s.words 1 0 ∙ r.words;
        counted = omega arith;
        wide = length-set s.views id (Knows w told) ∙ r.wide;
        few = r.few;
        lies = inr (empty, (id, w, (told, set_here s.views id (Knows w told) inside), refl));
        sound = r.sound;
        each_seat = seats_stay (Sits account r.served r.drawn r.made r.seat_of r.now (set s.homes 0 maybe.none)) s.views id (Knows w told)
            (λ u e. subst (Sits account r.served r.drawn r.made r.seat_of r.now (set s.homes 0 maybe.none) id) (knows_is w told u e)
            record {
              finds = finds_self account v.number r.now;
              on_stage = (refl, within.1, empty, refl);
              placed = again v.number mine.placed;
            })
            (λ j u ne there. let t = r.each_seat j u there in
            record {
              finds = t.finds;
              on_stage = taken r.served r.drawn r.now s.homes u.last u.stage (set s.homes 0 maybe.none) empty t.on_stage;
              placed = t.placed;
            });
        told = told_stays account r.now r.now s.views id (Knows v told) (Knows w told) r.told at.1 (λ n le. le) (λ le. le);
        apart = apart_stays s.views id (Knows w told) r.apart (λ x u b j e xt ne there ut.
            ne (r.apart j id u v b there at ut (ap ticket waits ∙ (ap (λ (z : Known S). ticket z.stage) (knows_is w told x e) ∙ xt))));
        silent = r.silent;
      }
    where
      again : (m : Option ℕ) → Placed account r.made r.seat_of r.now id v m
          → Placed account r.made r.seat_of r.now id (knowing v r.now (Holds r.served)) m
      again None p = (p.0, p.1, p.2, p.3, r.silent)
      again (Some m) p = p

  -- where a ticket is served whose seat waits, the state is at home
  home_in_turn : (s : State (Option S) (View S)) (r : R account s) (id : ℕ) (v : Known S)
      → SaysAt s.views id v → v.stage ≡ Waits r.served → s.homes ≡ some (Some r.now) ∷ []
  home_in_turn s r id v at waits = ⊎_elim (λ h. h)
      (λ (h : (s.homes ≡ maybe.none ∷ []) × ((j : ℕ) × (u : Known S) × SaysAt s.views j u × (holds_it u.stage ≡ true))).
      let j = h.1.0 in let u = h.1.1 in let there = h.1.2 in let b = ticket_of_holder u.stage h.1.3 in
      let on = subst (OnStage r.served r.drawn r.now s.homes u.last) b.1 (r.each_seat j u there).on_stage in
      let same : j ≡ id = r.apart j id u v r.served there at (ap ticket b.1 ∙ ap Some on.0) (ap ticket waits) in
      let is : u ≡ v = one_view s.views id u v (subst (λ (z : ℕ). SaysAt s.views z u) same there) at in
      let f : true ≡ false = sym h.1.3 ∙ (ap (λ (z : Known S). holds_it z.stage) is ∙ ap holds_it waits) in absurd (cc))
      r.lies

  pub looks : (slots id : ℕ) (me : Place S) (v : Known S) (a : ℕ) → Says me.0 v → v.stage ≡ Waits a
      → Allows (R account) slots id me 1 (λ n. n) (looked account (step slots 1 0 0 maybe.none) me)
  looks slots id me v a is waits s r _ at _ =
      let told : ℕ = is.0 in
      let at' : SaysAt s.views id v = (told, at ∙ ap some is.1) in
      let mine = r.each_seat id v at' in
      let heard : told ≤ length (account.journal r.now) = heard_of account s r id v at' in
      let found : get_or s.words 1 0 ≡ r.served % 2 ^ 64 = ap (λ (ws : List ℕ). get_or ws 1 0) r.words in
      let within = ticket_within r.served r.drawn r.now s.homes v.last v.stage a mine.on_stage (ap ticket waits) in
      let low = within.0 in let high = within.1 in
      let all = r.counted in let wide = r.wide in let few = r.few in let some_out = outs-le s.views in
      dite (ℕ_discrete (get_or s.words 1 0) (a % 2 ^ 64))
      (λ hit. let turn : r.served ≡ a = one_turn r.served a 18446744073709551616 low (omega arith) (sym found ∙ hit) in
      let waits' : v.stage ≡ Waits r.served = waits ∙ ap Waits (sym turn) in
      let home = home_in_turn s r id v at' waits' in
      let w : Known S = knowing v r.now (Holds r.served) in (
        Knows w told,
        takes 0 (Some r.now),
        ap (λ (hs : List (maybe.Option (Option S))). get_elem? hs 0) home,
        looks_in_turn s r id me.1 v at' waits' home,
        λ u other b e ub. let now : Knows v told ≡ Knows u other = sym is.1 ∙ e in let same : v ≡ u = same_known v u told other now in
            let known : told ≡ other = told_is v u told other now in
            let f : Waits a ≡ Waits b = sym waits ∙ (ap (λ (z : Known S). z.stage) same ∙ ub) in let g : a ≡ b = cc in (
              (λ _. (
                r.now,
                subst (Fits account r.now) same (finds account r.served r.drawn r.made r.seat_of r.now s.homes id v mine r.sound r.silent),
                (λ i. Knows (knowing (same i) r.now (Holds ((turn ∙ g) i))) (known i)),
                refl,
                subst (λ (n : ℕ). n ≤ length (account.journal r.now)) known heard,
              )),
              (λ miss. absurd (miss (hit ∙ ap (λ (z : ℕ). z % 2 ^ 64) g))),
            ),
      ))
      (λ miss. (
        me.0,
        keeps,
        tt,
        unmoved account s 1 id me.1 me.0 r at,
        λ u other b e ub. let same : v ≡ u = same_known v u told other (sym is.1 ∙ e) in
            let f : Waits a ≡ Waits b = sym waits ∙ (ap (λ (z : Known S). z.stage) same ∙ ub) in let g : a ≡ b = cc in
            ((λ hit. absurd (miss (hit ∙ ap (λ (z : ℕ). z % 2 ^ 64) (sym g)))), (λ _. refl)),
      ))

  pub recalls : (slots id : ℕ) (me : Place S)
      → Allows (R account) slots id me 1 (λ n. n) (recalled account (step slots 1 0 0 maybe.none) me)
  recalls slots id me s r _ at _ = (
    me.0,
    keeps,
    tt,
    unmoved account s 1 id me.1 me.0 r at,
    (refl, λ v other is first n le. told v.number v first (r.each_seat id v (other, at ∙ ap some is)).placed n le),
  )
    where
      told : (m : Option ℕ) (v : Known S) → m ≡ None → Placed account r.made r.seat_of r.now id v m → (n : ℕ) → v.made ≤ n
          → IsSilent account n v.last
      told None v e p n le = let top = p.1 in p.4 n (omega arith)
      told (Some m) v e p n le = let f : Some m ≡ None = e in absurd (cc)

  -- a seat at rest may be told the length of the journal, which all that it saw is within
  pub learns : (slots id : ℕ) (me : Place S) (v : Known S) → Says me.0 v → v.stage ≡ Idle
      → Allows (R account) slots id me 2 (λ n. n) (learned account (step slots 2 0 0 maybe.none) me)
  learns slots id me v is idle s r _ at _ =
      let told : ℕ = is.0 in
      let at' : SaysAt s.views id v = (told, at ∙ ap some is.1) in
      let mine = r.each_seat id v at' in
      let n : ℕ = get_or s.words 2 0 in
      let long : n ≡ length (account.journal r.now) = ap (λ (ws : List ℕ). get_or ws 2 0) r.words in
      let heard : told ≤ length (account.journal r.now) = heard_of account s r id v at' in
      let fits = finds account r.served r.drawn r.made r.seat_of r.now s.homes id v mine r.sound r.silent in
      let sum = outs-set s.views id (Knows v told) (Knows v n) at'.1 in
      let all = r.counted in (
        Knows v n,
        keeps,
        tt,
        record {
          served = r.served;
          drawn = r.drawn;
          made = r.made;
          seat_of = r.seat_of;
          now = r.now;
          words = set-get_or s.words 2 0 ∙ r.words;
          counted = omega arith;
          wide = length-set s.views id (Knows v n) ∙ r.wide;
          few = r.few;
          lies = lies_still r.now s 2 n id me.1 (Knows v told) (Knows v n) r.lies at'.1
              (λ u e. ap (λ (z : Known S). holds_it z.stage) (sym (knows_is v told u e)) ∙ ap holds_it idle);
          sound = r.sound;
          each_seat = seats_stay (Sits account r.served r.drawn r.made r.seat_of r.now s.homes) s.views id (Knows v n)
              (λ u e. subst (Sits account r.served r.drawn r.made r.seat_of r.now s.homes id) (knows_is v n u e) mine)
              (λ j u ne there. r.each_seat j u there);
          told = told_stays account r.now r.now s.views id (Knows v told) (Knows v n) r.told at'.1 (λ m le. le) (λ _. omega arith);
          apart = apart_stays s.views id (Knows v n) r.apart (λ x u b j e xt ne there ut.
              ne (r.apart j id u v b there at' ut (ap (λ (z : Known S). ticket z.stage) (knows_is v n x e) ∙ xt)));
          silent = r.silent;
        },
        (
          refl,
          λ u other e. let now : Knows v told ≡ Knows u other = sym is.1 ∙ e in let same : v ≡ u = same_known v u told other now in
              let known : told ≡ other = told_is v u told other now in (
                omega arith,
                subst (ReachesSeen account n) same (reaches r.now n long fits),
                ap (λ (z : Known S). Knows z n) same,
              ),
        ),
      )
    where
      reaches : (x : S) (n : ℕ) → n ≡ length (account.journal x) → Fits account x v → ReachesSeen account n v
      reaches x n long f = let seen = begins_longer (account.journal v.last) (account.journal x) f.finds.seen in record {
        seen = omega arith;
        joined = Each-map (λ (p : ℕ × S). Finds account (Some p.0) x p.1) (λ (p : ℕ × S). length (account.journal p.1) ≤ n)
            (λ p g. let old = begins_longer (account.journal p.1) (account.journal x) g.seen in omega arith) v.joined f.joined;
      }
