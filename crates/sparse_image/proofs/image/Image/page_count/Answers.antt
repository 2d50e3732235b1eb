use Rattle.std.proofs.Common.{length, ap, arith}
use Rattle.sparse_image.specs.Disk.{disk_of}
use Rattle.sparse_image.proofs.DiskLemmas.{length-disk_of}
use Rattle.sparse_image.proofs.image.Image.page_count.Goals as goal

pub returns-clause-disk : goal.returns-clause-disk
returns-clause-disk c =
    omega (arith, ap (λ i. length (disk_of i)) c.self.view_is, length-disk_of c.self.inside.pages.items c.self.invariant)
