-- The definitions compute the sheet of the example, from its bytes to its text. Assumes nothing.
use mathlib.Core.Path.{◌≡◌, refl}
use Prim.Native.Nat.{ℕ}
use lib.Ieee.{eq, le, lt, ne, add, sub, mul, div, neg, round, of_int, of_bits, to_bits, to_signed, to_unsigned}
use Rattle.text.specs.Text.{printable, digits_of}
use Rattle.float64.specs.Ops.{dec}
use Rattle.float64.specs.Sizes.{abs_of, is_normal_of}
use Rattle.float64.specs.Whole.{floor_of, round_of}
use Rattle.float64.specs.Words.{is_negative_of, high_of, low_cleared_of}
use Rattle.fdlibm_root.specs.Root.{digits, whole_root, rounded_root, sqrt_of}
use Rattle.fdlibm_trig.specs.KCos.{quarter_of, kernel_cos_of}
use Rattle.fdlibm_trig.specs.KSin.{kernel_sin_of}
use Rattle.fdlibm_trig.specs.KTan.{tan_rest_of, reciprocal_of, tan_small_of, tan_middle_of, tan_large_of, kernel_tan_of}
use Rattle.fdlibm_trig.specs.RemPio2.{npio2, npio2_of, refine_of, difference_of, near_of, near_negative_of, rem_pio2_of}
use Rattle.fdlibm_trig.specs.Trig.{quarter_turns_of, sin_of, cos_of, tan_of}
use Rattle.fdlibm_arc.specs.Acos.{acos_low_of, acos_high_of, acos_of}
use Rattle.fdlibm_arc.specs.Asin.{ratio_of, asin_large_of, asin_of}
use Rattle.fdlibm_arc.specs.Atan.{atan_rest_of, atan_large_of, atan_of}
use Rattle.fdlibm_arc.specs.Atan2.{infinite_of, quotient_of, atan2_of}
use Rattle.unit.specs.Unit.{normalized_to_scale_of, quadrant_shifted_of}
use Rattle.calendar.specs.Answers.{held_of, from_of}
use Rattle.calendar.specs.Days.{days_before_of, days_in_year_of, ordinal_of, count_below, month_of, of_ordinal_of, days_before_year_of, day_number_of}
use Rattle.calendar.specs.Days.{last_by, year_of, date_at_of, date_of_day_of}
use Rattle.calendar.specs.Gregorian.{leap_of, length_of, exists_of, day_after_of, day_before_of}
use Rattle.models.specs.Numbers.{rounding_of, shafaq_of, madhab_of, rule_of, midnight_of, southern_of, method_of}
use Rattle.models.specs.Presets.{preset, preset_of}
use Rattle.models.specs.Settings.{parameters_new_of, portions_of, minutes_for, time_adjustments_of}
use Rattle.julian.specs.Julian.{year_product_of, month_product_of, correction_of, from_march_of, julian_day_of, to_i32_of, date_julian_day_of}
use Rattle.whole_minutes.specs.Times.{shift_of, rounded_of, adjusted_of}
use Rattle.fields.specs.Fields.{length_at, fault_in, fault_of, walk_of, check_of}
use Rattle.fields.specs.Numbers.{unsigned_of, signed_at_of, bytes_number_of, bits_of, float_of}
use Rattle.fields.specs.Tags.{length_fits, choice_fits}
use Rattle.fields.specs.Values.{collect_of, fields_of, values_in}
use Rattle.order.specs.Given.{date_in, rows_in, degrees_in, form_in, minutes_in, byte_or, degrees_or, rounding_or, minutes_or, interval_or}
use Rattle.order.specs.Given.{coordinate_in, parameters_in, rules_in, clock_in, ramadan_given, ramadan_in}
use Rattle.order.specs.Ranges.{rows_fit, minute_fits, minutes_fit, interval_fits, clock_fits, ramadan_fits, ramadan_rows, look_up, fits_of}
use Rattle.order.specs.Ranges.{in_range_of}
use Rattle.order.specs.Reading.{first_failing, is_given_of, missing_of, both_forms_of, tags_from, out_of_range_of, order_of, wrong_start_of, first_of}
use Rattle.order.specs.Reading.{reading_of, town_in, town_of}
use Rattle.ops.specs.Coordinates.{declination_of, right_ascension_of, apparent_sidereal_time_of, solar_coordinates_of}
use Rattle.ops.specs.Sun.{julian_century_of, mean_solar_longitude_of, mean_lunar_longitude_of, ascending_lunar_node_longitude_of, mean_solar_anomaly_of}
use Rattle.ops.specs.Sun.{solar_equation_of_the_center_of, omega_of, apparent_solar_longitude_of, mean_obliquity_of_the_ecliptic_of}
use Rattle.ops.specs.Sun.{apparent_obliquity_of_the_ecliptic_of, mean_sidereal_time_of, nutation_in_longitude_of, nutation_in_obliquity_of}
use Rattle.ops.specs.Transit.{interpolate_of, interpolate_angles_of, altitude_of_celestial_body_of, west_of, approximate_transit_of, hour_angle_at_of}
use Rattle.ops.specs.Transit.{corrected_transit_of, corrected_hour_angle_of}
use Rattle.solar.specs.Hours.{solar_altitude, transit_number_of, angle_number_of, hour_numbers_of, shadow_angle_of, afternoon_number_of}
use Rattle.solar.specs.Setting.{hour_adjustment_of, minute_of, hour_of, setting_hour_of}
use Rattle.solar.specs.Times.{solar_hour_of, day_of, solar_time_of}
use Rattle.night_portions.specs.Portions.{portion_after_of, portion_before_of, seventh_of, middle_of, last_third_of}
use Rattle.schedule.specs.Hours.{numbered_of, suns_of, hours_of}
use Rattle.schedule.specs.Numbers.{numbers_of}
use Rattle.schedule.specs.Times.{start_of, final_of, fajr_tomorrow_of, middle_of_the_night_of, qiyam_of, from_midnight_of, started_of, started_in}
use Rattle.schedule.specs.Times.{since_from, since_of}
use Rattle.schedule.specs.Twilight.{night_of, later_of, earlier_of, or_of, by_seventh_of, own_of, short_of, before_sunrise_of, unadjusted_fajr_of}
use Rattle.schedule.specs.Twilight.{after_sunset_of, isha_bound_of, bounded_isha_of, unadjusted_isha_of}
use Rattle.days.specs.Calls.{work_row_of}
use Rattle.lines.specs.Lines.{date_text, time_text, imsak_of, columns_of, times_text, row_text, number_text, refused_text, line_text}
use Rattle.reports.specs.Reports.{report_in}
use Rattle.sheets.specs.Rows.{header_text, head_text, lines_text, accepted_text, sheet_text}
use Rattle.worked_sheet.specs.Worked.{kiruna, printed, SheetIsAsPrinted}

-- ---- what a sheet is defined by, layer by layer: what opens one of these names opens all that it lists
-- floats and whole numbers
number_opened : ℕ
unfolding printable digits_of dec abs_of is_normal_of floor_of round_of is_negative_of high_of low_cleared_of round of_bits eq le lt ne add sub mul div
    neg of_int to_bits to_signed to_unsigned
number_opened = 0

-- fdlibm
trig_opened : ℕ
unfolding digits whole_root rounded_root sqrt_of quarter_of kernel_cos_of kernel_sin_of tan_rest_of reciprocal_of tan_small_of tan_middle_of tan_large_of
    kernel_tan_of npio2 npio2_of refine_of difference_of near_of near_negative_of rem_pio2_of quarter_turns_of sin_of cos_of tan_of acos_low_of acos_high_of
    acos_of ratio_of asin_large_of asin_of atan_rest_of atan_large_of atan_of infinite_of quotient_of atan2_of
trig_opened = 0

-- dates and choices
dates_opened : ℕ
unfolding normalized_to_scale_of quadrant_shifted_of held_of from_of days_before_of days_in_year_of ordinal_of count_below month_of of_ordinal_of
    days_before_year_of day_number_of last_by year_of date_at_of date_of_day_of leap_of length_of exists_of day_after_of day_before_of rounding_of shafaq_of
    madhab_of rule_of midnight_of southern_of method_of preset preset_of parameters_new_of portions_of minutes_for time_adjustments_of year_product_of
    month_product_of correction_of from_march_of julian_day_of to_i32_of date_julian_day_of shift_of rounded_of adjusted_of
dates_opened = 0

-- reading the order
read_opened : ℕ
unfolding length_at fault_in fault_of walk_of check_of unsigned_of signed_at_of bytes_number_of bits_of float_of length_fits choice_fits collect_of
    fields_of values_in date_in rows_in degrees_in form_in minutes_in byte_or degrees_or rounding_or minutes_or interval_or coordinate_in parameters_in
    rules_in clock_in ramadan_given ramadan_in rows_fit minute_fits minutes_fit interval_fits clock_fits ramadan_fits ramadan_rows look_up fits_of
    in_range_of first_failing is_given_of missing_of both_forms_of tags_from out_of_range_of order_of wrong_start_of first_of reading_of town_in town_of
read_opened = 0

-- the sun
sun_opened : ℕ
unfolding declination_of right_ascension_of apparent_sidereal_time_of solar_coordinates_of julian_century_of mean_solar_longitude_of mean_lunar_longitude_of
    ascending_lunar_node_longitude_of mean_solar_anomaly_of solar_equation_of_the_center_of omega_of apparent_solar_longitude_of
    mean_obliquity_of_the_ecliptic_of apparent_obliquity_of_the_ecliptic_of mean_sidereal_time_of nutation_in_longitude_of nutation_in_obliquity_of
    interpolate_of interpolate_angles_of altitude_of_celestial_body_of west_of approximate_transit_of hour_angle_at_of corrected_transit_of
    corrected_hour_angle_of solar_altitude transit_number_of angle_number_of hour_numbers_of shadow_angle_of afternoon_number_of hour_adjustment_of minute_of
    hour_of setting_hour_of solar_hour_of day_of solar_time_of
sun_opened = 0

-- the nine times
day_opened : ℕ
unfolding portion_after_of portion_before_of seventh_of middle_of last_third_of numbered_of suns_of hours_of numbers_of start_of final_of fajr_tomorrow_of
    middle_of_the_night_of qiyam_of from_midnight_of started_of started_in since_from since_of night_of later_of earlier_of or_of by_seventh_of own_of short_of
    before_sunrise_of unadjusted_fajr_of after_sunset_of isha_bound_of bounded_isha_of unadjusted_isha_of work_row_of
day_opened = 0

-- the sheet
sheet_opened : ℕ
unfolding date_text time_text imsak_of columns_of times_text row_text number_text refused_text line_text report_in header_text head_text lines_text
    accepted_text
sheet_opened = 0

worked : sheet_text kiruna ≡ printed
unfolding number_opened trig_opened dates_opened read_opened sun_opened day_opened sheet_opened
worked = refl

pub sheet_is_as_printed : SheetIsAsPrinted
sheet_is_as_printed = worked
