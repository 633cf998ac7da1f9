-- The form is read from five bytes.
use Rattle.order.specs.Given.{form_in}
use Rattle.order.proofs.given.form_in.Goals as goal

pub returns : goal.returns
unfolding form_in
returns c = cc
