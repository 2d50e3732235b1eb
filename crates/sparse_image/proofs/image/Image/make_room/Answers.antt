use Rattle.sparse_image.proofs.DiskLemmas.{disk_of-makes}
use Rattle.sparse_image.proofs.image.Image.make_room.Goals as goal

pub returns-clause-disk : goal.returns-clause-disk
returns-clause-disk c = disk_of-makes c.make_pages.result c.args.self.now c.make_pages.new.self _ c.make_pages.ensures.ok
    c.make_pages.ensures.err
