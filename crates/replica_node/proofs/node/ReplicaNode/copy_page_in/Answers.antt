use Rattle.std.proofs.Common.{◌≡◌, ◌/◌, ◌*◌, length, sym, ap, subst, ◌∙◌, arith}
use Rattle.sparse_image.specs.Image.{place_at}
use Rattle.layer_chain.specs.Tree.{layer_at}
use Rattle.replica_node.specs.Node.{node_of}
use Rattle.replica_node.specs.Held.{PutsPage}
use Rattle.replica_node.proofs.HeldLemmas.{page_out, put_whole, put_page, table_places}
use Rattle.replica_node.proofs.NodeLemmas.{there_in}
use Rattle.replica_node.proofs.ReadLemmas.{length-node}
use Rattle.replica_node.proofs.node.ReplicaNode.copy_page_in.Goals as goal

pub place_of-place-requires : goal.place_of-place-requires
place_of-place-requires c =
    there_in c.self.inside.tree (c.self.inside.size / 4096) c.args.self.now c.args.layer.now c.self.view_is c.requires.kept

pub swap_page-requires-clause-inside : goal.swap_page-requires-clause-inside
swap_page-requires-clause-inside c =
    let t = c.self.inside.tree in
    let i = c.place_of-place.result in
    let pages : length (layer_at t.layers i).image * 512 ≡ c.self.inside.size / 4096 =
    (c.self.invariant.images i _ c.place_of-place.ensures.at.within).pages in
    omega (arith, pages, length-node t (c.self.inside.size / 4096) c.args.self.now c.self.view_is c.self.invariant, c.requires.inside)

pub invariant_of-self : goal.invariant_of-self
invariant_of-self c =
    put_whole c.self.inside.tree c.swap_page.new.self (c.self.inside.size / 4096) c.args.layer.now c.place_of-place.result
    c.args.page c.args.with.now
    c.place_of-place.ensures.whole.layers c.place_of-place.ensures.at c.swap_page.ensures.puts c.swap_page.ensures.rest
    c.self.invariant c.swap_page.ensures.table

pub returns-clause-puts : goal.returns-clause-puts
returns-clause-puts c =
    subst (λ n. PutsPage n (node_of c.swap_page.new.self (c.self.inside.size / 4096)) c.args.layer.now c.args.page c.args.with.now)
    c.self.view_is
    (put_page c.self.inside.tree c.swap_page.new.self (c.self.inside.size / 4096) c.args.layer.now c.place_of-place.result
    c.args.page c.args.with.now
    c.place_of-place.ensures.whole.layers c.place_of-place.ensures.at c.swap_page.ensures.puts c.swap_page.ensures.rest
    c.self.invariant c.swap_page.ensures.table)

pub returns-clause-back : goal.returns-clause-back
returns-clause-back c =
    let t = c.self.inside.tree in
    let i = c.place_of-place.result in
    let image = (layer_at t.layers i).image in
    page_out t (c.self.inside.size / 4096) c.args.self.now c.args.layer.now c.args.page i c.swap_page.new.with
    c.self.view_is c.self.invariant
    c.place_of-place.ensures.whole.layers c.place_of-place.ensures.at
    (λ k h. ap (λ table. place_at table k) c.swap_page.ensures.back ∙ sym (table_places image c.args.page k h))
