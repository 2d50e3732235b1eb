use Rattle.std.proofs.Common.{◌≡◌, ◌+◌, ◌*◌, length, slice_range, sym, ap, ◌∙◌, subst, arith}
use Rattle.std.proofs.lemmas.Grind.{common_steps}
use Rattle.std.specs.Option.{option_copied}
use Rattle.sparse_image.specs.Disk.{bytes_of, disk_of}
use Rattle.sparse_image.specs.Image.{block_at}
use Rattle.sparse_image.proofs.DiskLemmas.{disk_of-block}
use Rattle.sparse_image.proofs.image.Image.get.Goals as goal

pub returns-in-Some-clause-disk : goal.returns-in-Some-clause-disk
unfolding block_at
returns-in-Some-clause-disk c = λ inside.
    let block = c.args.block in
    let value : option_copied c.get-in-Some.result ≡ block_at c.args.self.now block = grind (arith, common_steps) in
    subst (λ i. slice_range (disk_of i) (block * 4096) (block * 4096 + 4096) ≡ bytes_of (block_at i block)) c.self.view_is
    (disk_of-block c.self.inside.pages.items block c.self.invariant (omega (arith, ap length c.self.view_is)))
    ∙ ap bytes_of (sym value)
