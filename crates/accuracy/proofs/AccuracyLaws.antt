-- The two bounds, as specs/Accuracy states them. Assumes nothing. The proof, file by file:
--   Fractions     signed fractions over natural numbers, and how far apart two of them are
--   Rounding      a fraction is rounded to a float that is at most half of a last place away
--   Operations    so is the exact result of each operation
--   Expressions   the one account of the rounding: how far an expression's rounded value is from its exact value
--   Forms         polynomials that are compared by their coefficients
--   Series        the statement's sums as polynomials in the square of the argument
--   Polynomials   a kernel's polynomial without rounding, compared with that of the series
--   Integers      from fractions to the statement's integers
--   Words         which branch the code takes, from the argument's high word
--   Kernels       what the sine and the cosine share
--   Sine, Cosine  the two bounds
use Rattle.prelude.proofs.Logic.{lit≤}
use Rattle.accuracy.specs.Accuracy.{SineAndCosineAreNear, SineAndCosineAreNearer}
use Rattle.accuracy.proofs.{Integers.wider, Sine.sine_within, Cosine.cosine_within}

pub sine_and_cosine_are_nearer : SineAndCosineAreNearer
sine_and_cosine_are_nearer = (sine_within, cosine_within)

pub sine_and_cosine_are_near : SineAndCosineAreNear
sine_and_cosine_are_near = (λ x h. wider (lit≤ tt) (sine_within x h), λ x h. wider (lit≤ tt) (cosine_within x h))
