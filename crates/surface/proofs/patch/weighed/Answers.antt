-- The product of two bounds fits.
use Rattle.surface.proofs.Sums.{product_fits, product_is, product_within}
use Rattle.surface.proofs.patch.weighed.Goals as goal

pub overflow_mul-result : goal.overflow_mul-result
overflow_mul-result c = product_fits c.args.weight c.args.number c.requires.0 c.requires.1

pub returns : goal.returns
returns c = record {
  value = product_is c.args.weight c.args.number c.requires.0 c.requires.1;
  low = product_within c.args.weight c.args.number c.requires.0 c.requires.1;
}
