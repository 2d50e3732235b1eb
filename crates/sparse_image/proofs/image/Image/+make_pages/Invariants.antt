use Rattle.std.proofs.Common.{◌-◌}
use Rattle.sparse_image.proofs.image.Image.+make_pages.Given as goal

abbrev pub decreases-make_pages : goal.decreases-make_pages
decreases-make_pages l = l.end - l.first
