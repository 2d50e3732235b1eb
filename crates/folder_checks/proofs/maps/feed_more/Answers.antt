use Rattle.std.proofs.Common.{◌≡◌, List, ℕ, length, take}
use Rattle.shelf_traits.specs.Files.{Files, from_place}
use Rattle.folder_checks.proofs.ToldLemmas.{told_map}
use Rattle.folder_checks.proofs.PieceLemmas.{both_told, fed_more, fed_bad}
use Rattle.folder_checks.proofs.maps.feed_more.Goals as goal

-- what was read
abbrev IsPiece : List ℕ → ℕ → ℕ → ℕ → List ℕ → ℕ → Files → Type 0
IsPiece into count room shelf file at files = take count into ≡ take room (from_place (files shelf file) at)

pub returns-in-Ok-clause-told : goal.returns-in-Ok-clause-told
returns-in-Ok-clause-told g c =
    let a = g.S.Shelves.holds c.args.shelves.now in
    let count = c.in_ok-count.count in
    let room = length c.args.room.now in
    let into = c.read_at.new.into in
    let is = IsPiece into count room c.args.shelf c.args.file.now c.args.at in
    told_map a is _ (both_told a (g.S.Shelves.holds c.read_at.new.self) is c.in_ok-count.ensures.bytes)
    (λ files same. fed_more _ c.args.len c.args.at count room (files c.args.shelf c.args.file.now) c.args.reader.now.fed
    c.feed.new.self.fed into c.in-Ok.field-0 c.in_ok-count.ensures.bound c.requires same c.in-Ok.ensures.fed)

pub returns-in-Err-BadLine-clause-told : goal.returns-in-Err-BadLine-clause-told
returns-in-Err-BadLine-clause-told g c =
    let a = g.S.Shelves.holds c.args.shelves.now in
    let count = c.in_ok-count.count in
    let room = length c.args.room.now in
    let into = c.read_at.new.into in
    let is = IsPiece into count room c.args.shelf c.args.file.now c.args.at in
    told_map a is _ (both_told a (g.S.Shelves.holds c.read_at.new.self) is c.in_ok-count.ensures.bytes)
    (λ files same. fed_bad _ c.args.len c.args.at count room c.in-Err-BadLine.place (files c.args.shelf c.args.file.now)
    c.args.reader.now.fed c.feed.new.self.fed into c.in-Err-BadLine.field-0 c.in-Err-BadLine.field-0-is
    c.in_ok-count.ensures.bound c.requires same c.in-Err-BadLine.ensures.fed)
