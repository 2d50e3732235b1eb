use Rattle.std.proofs.Common.{◌<◌, subst}
use Rattle.std.specs.List.{All}
use Rattle.packed_bytes.specs.Place.{is_packed, kept_at}
use Rattle.packed_bytes.proofs.ByteLemmas.{list_bytes}
use Rattle.packed_bytes.proofs.list.PackedList.know.Goals as goal

pub returns : goal.returns
returns c =
    let inside = c.self.inside in
    let store = inside.store.now.items in
    subst (All (λ b. b < 256)) c.self.view_is
    (list_bytes (is_packed inside.place) (kept_at store inside.place) c.know_part.ensures)
