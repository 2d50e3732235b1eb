use Rattle.std.proofs.Common.{◌≡◌, ℕ, ◌<◌, length, get_or}
use Rattle.volume_backup.proofs.pages.all_pages.Given as goal

abbrev pub invariant-loop-page : goal.invariant-loop-page
invariant-loop-page l = (length l.pages.items ≡ l.page) × ((i : ℕ) → i < length l.pages.items → get_or l.pages.items i 0 ≡ i)
