-- What is known of entries one after another is known of all of them.
use Rattle.std.proofs.Common.{◌≡◌, ◌+◌, ◌<◌, ◌≤◌, ℕ, List, length, take, get_or, subst}
use Rattle.std.specs.List.{All}
use Rattle.std.proofs.lemmas.List.{take_all}
use Rattle.std.proofs.lemmas.List.Elements.{All-more, at_read}
use Rattle.volume_model.specs.declared.entry.Entry.{Entry}

pub one_more : (P : Entry → Type 0) (entries : List Entry) (i : ℕ) (e : Entry) → i < length entries → e ≡ get_or entries i e
    → P e → All P (take i entries) → All P (take (i + 1) entries)
one_more P entries i e inside is here before = All-more P entries i e inside before (at_read entries P i e inside is here e)

pub all_of_them : (P : Entry → Type 0) (entries : List Entry) (i : ℕ) → length entries ≤ i → All P (take i entries) → All P entries
all_of_them P entries i past before = subst (All P) (take_all i entries past) before
