-- What a step leaves to the seats that did not take it.
use Rattle.std.proofs.Common.{◌≡◌, ◌≢◌, ℕ, ◌++◌, Option, Some, None, refl, ap, ◌∙◌, subst, append-nil}
use Rattle.desk_lock.specs.Account.{Account, Each, entries_of, mine_in, running_in, Finds, IsSilent, MayLeave}
use Rattle.desk_lock.proofs.Lists.{begins_trans, Each-zip, entries_of-append, entries_of-others}

module _ {S Entry OpenCall Origin : Type 0} (account : Account S Entry OpenCall Origin) where
  module _ (number : Option ℕ) (x y : S) (may : MayLeave account number x y) where
    entries_stay : (n : ℕ) → number ≢ Some n → entries_of account n (account.journal y) ≡ entries_of account n (account.journal x)
    entries_stay n other = let more = may.added in
        ap (entries_of account n) more.1 ∙ (entries_of-append account n (account.journal x) more.0
        ∙ (ap (λ es. entries_of account n (account.journal x) ++ es) (entries_of-others account number n other more.0 more.2)
        ∙ append-nil _))

    mine_stays : (other : Option ℕ) → ((n : ℕ) → other ≡ Some n → number ≢ Some n) → mine_in account other y ≡ mine_in account other x
    mine_stays None apart = refl
    mine_stays (Some n) apart = entries_stay n (apart n refl)

    running_stays : (other : Option ℕ) → ((n : ℕ) → other ≡ Some n → number ≢ Some n)
        → running_in account other y ≡ running_in account other x
    running_stays None apart = refl
    running_stays (Some n) apart = may.others n (apart n refl)

    counted_stays : (other : Option ℕ) → ((n : ℕ) → other ≡ Some n → number ≢ Some n)
        → Each (λ c. account.counts_on c x y) (running_in account other x)
    counted_stays None apart = tt
    counted_stays (Some n) apart = may.counted n (apart n refl)

    -- what the calls of another seat count on since the state z, they have in y too
    counted_later : (other : Option ℕ) (z : S) → ((n : ℕ) → other ≡ Some n → number ≢ Some n) → Finds account other x z
        → Each (λ c. account.counts_on c z y) (running_in account other z)
    counted_later other z apart f = Each-zip
        (λ c. account.counts_on c z x)
        (λ c. account.counts_on c x y)
        (λ c. account.counts_on c z y)
        (λ c. account.counts_later c z x y)
        (running_in account other z)
        f.counted
        (subst (Each (λ c. account.counts_on c x y)) f.running (counted_stays other apart))

    -- another seat finds its own after the step too
    pub finds_later : (other : Option ℕ) (z : S) → ((n : ℕ) → other ≡ Some n → number ≢ Some n) → Finds account other x z
        → Finds account other y z
    finds_later other z apart f = record {
      same_origin = may.same_origin ∙ f.same_origin;
      seen = begins_trans (account.journal z) (account.journal x) (account.journal y) (may.added.0, may.added.1) f.seen;
      mine = mine_stays other apart ∙ f.mine;
      running = running_stays other apart ∙ f.running;
      counted = counted_later other z apart f;
    }

    -- another stream that had nothing still has nothing
    pub silent_later : (n : ℕ) → number ≢ Some n → IsSilent account n x → IsSilent account n y
    silent_later n other f = record { entries = entries_stay n other ∙ f.entries; running = may.others n other ∙ f.running }
