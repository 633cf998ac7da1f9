-- A proof for each check, if those before it passed.
use Rattle.prelude.proofs.Logic.{◌≡◌, sym, not, cond, ◌-◌, ltb, lt-ltb, le-ltb}
use Rattle.refusals.specs.Refusals.{unless_refused}
use Rattle.fields.specs.Fields.{fault_in}
use Rattle.fields.proofs.faults.check_field.Goals as goal
use Rattle.fields.proofs.faults.check_field.Goals.{After-length_fits}

-- the first three checks are passed
length-holds : (l : After-length_fits) → let a = l.args in
    cond (not l.length_fits.result) 2 (cond (ltb (a.left - 3) a.length) 1 0) ≡ fault_in a.tag a.length a.again a.left
unfolding fault_in
length-holds l =
    let known = l.before.before in
    simp (
      sym l.length_fits.ensures,
      l.if-again.false,
      sym known.known.ensures,
      known.if-not-known.false,
      le-ltb _ _ known.if-left-lt-HEADER_LENGTH.false,
    )

pub returns-then-left-lt-HEADER_LENGTH : goal.returns-then-left-lt-HEADER_LENGTH
unfolding fault_in unless_refused
returns-then-left-lt-HEADER_LENGTH c = simp (c.new.ensures, lt-ltb _ _ c.if-left-lt-HEADER_LENGTH.true)

pub returns-then-not-known : goal.returns-then-not-known
unfolding fault_in unless_refused
returns-then-not-known c =
    simp (c.new-then-not-known.ensures, sym c.known.ensures, c.if-not-known.true, le-ltb _ _ c.if-left-lt-HEADER_LENGTH.false)

pub returns-then-again : goal.returns-then-again
unfolding fault_in unless_refused
returns-then-again c =
    simp (
      c.new-then-again.ensures,
      c.if-again.true,
      sym c.known.ensures,
      c.if-not-known.false,
      le-ltb _ _ c.if-left-lt-HEADER_LENGTH.false,
    )

pub returns-then-not-length_fits : goal.returns-then-not-length_fits
unfolding unless_refused
returns-then-not-length_fits c =
    rw (← length-holds (goal.at.returns-then-not-length_fits c).After-length_fits)
    (simp (c.new-then-not-length_fits.ensures, c.if-not-length_fits.true))

pub returns-then-left-length : goal.returns-then-left-length
unfolding unless_refused
returns-then-left-length c =
    rw (← length-holds (goal.at.returns-then-left-length c).After-length_fits)
    (simp (c.new-then-left-length.ensures, c.if-not-length_fits.false, lt-ltb _ _ c.if-left-length.true))

pub returns : goal.returns
unfolding unless_refused
returns c =
    rw (← length-holds (goal.at.returns c).After-length_fits)
    (simp (c.if-not-length_fits.false, le-ltb _ _ c.if-left-length.false))
