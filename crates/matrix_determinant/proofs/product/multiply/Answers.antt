use borrow.Author.Rules.{rules}
use mathlib.Core.Path.{ap₂, ◌∙◌}
use Rattle.poly.specs.arithmetic.Operations.{scaled_by}
use Rattle.matrix_determinant.specs.SignedProduct.{signed_product}
use Rattle.matrix_determinant.proofs.SignedProduct.{used-asked, made-whole}
use Rattle.matrix_determinant.proofs.product.multiply.Goals as goal

pub product-requires : goal.product-requires
product-requires c = search (rules, used-asked)

pub returns : goal.returns
unfolding signed_product
returns c =
    c.scale.ensures
    ∙ ap₂ (scaled_by _) c.unit.ensures
    (c.copy_from_slice.ensures.after ∙ made-whole c.used-a.ensures.0 c.used-b.ensures.0 c.requires _ (search rules) _ c.product.ensures)
