-- The names of the reader and of what it reads that the proofs of this crate use, in one place. Nothing is added.
pub use Rattle.std.specs.Prelude.{Err, Ok}
pub use Rattle.calendar.proofs.Calendar.{date_of, exists_yes, month_of_date, row_date_of}
pub use Rattle.calendar.specs.declared.dates.Date.{Date}
pub use Rattle.fields.proofs.FieldsLaws.{column_small, fits_between}
pub use Rattle.fields.proofs.LookupLaws.{find_here, find_none, find_on, first, value-fits}
unfoldable pub use Rattle.fields.specs.Fields.{check_of, fault_in, length_at, walk_of}
pub use Rattle.fields.specs.Fields.{next_field_at}
unfoldable pub use Rattle.fields.specs.Lookup.{first_from, offset_of}
unfoldable pub use Rattle.fields.specs.Numbers.{bits_of, bytes_number_of, float_of, signed_at_of, unsigned_of}
pub use Rattle.fields.specs.Numbers.{byte_of, with_sign}
unfoldable pub use Rattle.fields.specs.Tags.{choice_fits, length_fits}
pub use Rattle.fields.specs.Tags.{column, last_tag, longest_town, ramadan_tag, tags}
pub use Rattle.fields.specs.Values.{Values, has_of, value_of, values_of}
pub use Rattle.fields.specs.declared.values.Part.{Part}
unfoldable pub use Rattle.float64.specs.Ops.{dec}
pub use Rattle.hijri.specs.declared.ramadan.Ramadan.{Ramadan}
pub use Rattle.integers.proofs.Integers.{N, Near, P, difference, le_yes, same, to_le}
unfoldable pub use Rattle.models.proofs.Models.{madhab_number_of, madhab_of, method_number_of, method_of, midnight_number_of, midnight_of}
unfoldable pub use Rattle.models.proofs.Models.{minutes_for, preset, preset_of, rounding_number_of, rounding_of, rule_number_of, rule_of}
unfoldable pub use Rattle.models.proofs.Models.{shafaq_number_of, shafaq_of, southern_number_of, southern_of}
pub use Rattle.models.specs.declared.adjustments.TimeAdjustment.{TimeAdjustment}
pub use Rattle.models.specs.declared.prayer.Prayer.{Prayer}
pub use Rattle.models.specs.declared.prayer.Prayer.TheVariants.{Asr, Dhuhr, Fajr, Isha, Maghrib, Sunrise}
pub use Rattle.order.proofs.AcceptedLaws.{brought, read_accepted}
pub use Rattle.order.proofs.ReadingLaws.{fits_given, has_required, read_passed, read_town, refused_by, town_value}
pub use Rattle.order.specs.Accepted.{Accepted, DateInOrder}
unfoldable pub use Rattle.order.specs.Given.{byte_or, clock_in, coordinate_in, date_in, degrees_in, degrees_or, form_in, interval_or, minutes_in}
unfoldable pub use Rattle.order.specs.Given.{minutes_or, parameters_in, ramadan_given, ramadan_in, rounding_or, rows_in, rules_in}
unfoldable pub use Rattle.order.specs.Ranges.{clock_fits, fits_of, in_range_of, interval_fits, look_up, minute_fits, minutes_fit, ramadan_fits}
unfoldable pub use Rattle.order.specs.Ranges.{ramadan_rows, rows_fit}
pub use Rattle.order.specs.Ranges.{date_fits, first_year, last_year, most_clock, most_imsak, most_in, most_interval, most_minutes, most_rows, within}
unfoldable pub use Rattle.order.specs.Reading.{both_forms_of, first_failing, first_of, is_given_of, missing_of, order_of, out_of_range_of, reading_of}
unfoldable pub use Rattle.order.specs.Reading.{tags_from, town_of, wrong_start_of}
pub use Rattle.order.specs.Reading.{checks_of}
pub use Rattle.order.specs.declared.reading.Order.{Order}
pub use Rattle.refusals.specs.Refusals.{no_refusal}
unfoldable pub use Rattle.text.specs.Text.{printable}
pub use Rattle.text.specs.Text.{front_of}
