-- The loop of `out_of_range`: whether a tag passes, and what the first one from a tag on that does not pass gives.
use Rattle.prelude.proofs.Logic.{◌≡◌, refl, Bool, true, false, cond, ℕ, suc, ◌+◌, ◌-◌, ◌≤◌, arith}
use Rattle.calendar.specs.declared.dates.Date.{Date}
use Rattle.fields.specs.Tags.{last_tag}
use Rattle.fields.specs.Values.{Values}
use Rattle.order.specs.Given.{date_in}
use Rattle.order.specs.Ranges.{fits_in, fits_of, in_range_of}
use Rattle.order.specs.Reading.{first_failing, tags_from, out_of_range_of}
use Rattle.refusals.specs.Refusals.{refusal, no_refusal}
use Rattle.refusals.specs.declared.Refusal.{Refusal}

-- ---- the tags from one on
abbrev pub from_tag : (ℕ → Bool) → ℕ → Refusal
from_tag pass tag = first_failing 5 pass (tags_from (last_tag + 1 - tag) tag)

module _ (pass : ℕ → Bool) (tag : ℕ) (l : tag ≤ 20) where
  step : 21 - tag ≡ suc (21 - (tag + 1))
  step = omega arith

  pub tag-fails : pass tag ≡ false → from_tag pass tag ≡ refusal 5 tag
  unfolding first_failing tags_from
  tag-fails h = rw step (simp h)

  pub tag-passes : pass tag ≡ true → from_tag pass tag ≡ from_tag pass (tag + 1)
  unfolding first_failing tags_from
  tag-passes h = rw step (simp h)

pub tags-end : (pass : ℕ → Bool) → from_tag pass 21 ≡ no_refusal
unfolding first_failing tags_from
tags-end pass = refl

-- whether a tag passes, from the values that the loop uses
abbrev pub passes : Values → Date → Bool → ℕ → Bool
passes v date ramadan tag = cond (v.has tag) (fits_in tag (v.value tag) date ramadan) true

pub held : (v : Values) (date : Date) (ramadan : Bool) → date ≡ date_in (v.value 2) → ramadan ≡ v.has 20
    → from_tag (passes v date ramadan) 1 ≡ out_of_range_of v
unfolding out_of_range_of in_range_of fits_of
held v date ramadan d r = rw (d, r) refl
