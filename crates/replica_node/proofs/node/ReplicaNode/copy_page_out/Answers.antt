use Rattle.std.proofs.Common.{◌≡◌, ◌/◌, ◌*◌, length, sym, ap, subst, ◌∙◌, arith}
use Rattle.sparse_image.specs.Image.{place_at, table_at}
use Rattle.layer_chain.specs.Tree.{layer_at}
use Rattle.replica_node.proofs.HeldLemmas.{has_in, none_in, page_out, table_places}
use Rattle.replica_node.proofs.HasLemmas.{has_there, none_there_of}
use Rattle.replica_node.specs.Fold.{HasBlockIn, HasNoBlockIn}
use Rattle.replica_node.proofs.NodeLemmas.{there_in}
use Rattle.replica_node.proofs.ReadLemmas.{length-node}
use Rattle.replica_node.proofs.node.ReplicaNode.copy_page_out.Goals as goal

pub place_of-place-requires : goal.place_of-place-requires
place_of-place-requires c =
    there_in c.self.inside.tree (c.self.inside.size / 4096) c.args.self.now c.args.layer.now c.self.view_is c.requires.kept

pub copy_page-requires-clause-inside : goal.copy_page-requires-clause-inside
copy_page-requires-clause-inside c =
    let t = c.self.inside.tree in
    let i = c.place_of-place.result in
    let pages : length (layer_at t.layers i).image * 512 ≡ c.self.inside.size / 4096 =
    (c.self.invariant.images i _ c.place_of-place.ensures.at.within).pages in
    omega (
      arith,
      pages,
      ap length c.image.ensures,
      length-node t (c.self.inside.size / 4096) c.args.self.now c.self.view_is
          c.self.invariant,
      c.requires.inside,
    )

pub returns-clause-some : goal.returns-clause-some
returns-clause-some c = λ found.
    let t = c.self.inside.tree in
    let i = c.place_of-place.result in
    has_there t (c.self.inside.size / 4096) c.args.self.now c.args.layer.now i c.self.view_is c.self.invariant
    c.place_of-place.ensures.whole c.place_of-place.ensures.at c.args.page
    (subst (λ im. HasBlockIn im c.args.page) c.image.ensures (has_in c.image.result.now c.args.page (c.copy_page.ensures.some found)))

pub returns-clause-none : goal.returns-clause-none
returns-clause-none c = λ bare.
    let t = c.self.inside.tree in
    let i = c.place_of-place.result in
    none_there_of t (c.self.inside.size / 4096) c.args.self.now c.args.layer.now i c.self.view_is c.self.invariant
    c.place_of-place.ensures.whole c.place_of-place.ensures.at c.args.page
    (subst (λ im. HasNoBlockIn im c.args.page) c.image.ensures (none_in c.image.result.now c.args.page (c.copy_page.ensures.none bare)))

pub returns-clause-copied : goal.returns-clause-copied
returns-clause-copied c = λ found.
    let t = c.self.inside.tree in
    let i = c.place_of-place.result in
    let image = (layer_at t.layers i).image in
    page_out t (c.self.inside.size / 4096) c.args.self.now c.args.layer.now c.args.page i c.copy_page.new.into
    c.self.view_is c.self.invariant
    c.place_of-place.ensures.whole.layers c.place_of-place.ensures.at
    (λ k h. ap (λ table. place_at table k) (c.copy_page.ensures.copied found ∙ ap (λ m. table_at m c.args.page) c.image.ensures)
    ∙ sym (table_places image c.args.page k h))
