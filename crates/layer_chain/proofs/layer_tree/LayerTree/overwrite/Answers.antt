use Rattle.std.proofs.Common.{sym, subst, ◌∙◌}
use Rattle.std.specs.Option.{option_map}
use Rattle.vol_units.specs.Bytes.{with_bytes_at}
use Rattle.sparse_image.specs.Image.{block_at}
use Rattle.layer_chain.specs.Tree.{Tree}
use Rattle.layer_chain.specs.Changes.{with_head}
use Rattle.layer_chain.specs.Found.{Index, IsIndexed}
use Rattle.layer_chain.proofs.IndexLemmas.{indexed_put, some_map}
use Rattle.layer_chain.proofs.layer_tree.LayerTree.overwrite.Goals as goal

pub invariant_of-self : goal.invariant_of-self
invariant_of-self c =
    let inside = c.self.inside in
    let t : Tree = record { layers = inside.layers.items; head = inside.head; on = inside.on; number = inside.number } in
    let i = c.self.invariant in
    let write = c.overwrite-is_there in
    let own = block_at inside.head c.args.block in
    record {
      whole = record { layers = i.whole.layers; head = i.whole.head; few = i.whole.few };
      room = i.room;
      indexed = subst (λ (index : Index). IsIndexed (with_head t write.new.self) index) (sym c.learn_head.ensures)
          (indexed_put t write.new.self c.args.block (option_map (λ b. with_bytes_at b c.args.start c.args.bytes.now) own)
          inside.index write.ensures.changes
          (some_map (λ b. with_bytes_at b c.args.start c.args.bytes.now) own ∙ sym write.ensures.there ∙ c.if-is_there.true)
          i.indexed);
    }
