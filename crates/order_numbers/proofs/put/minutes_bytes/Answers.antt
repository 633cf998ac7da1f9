-- The six minutes, two bytes each, from Fajr to Isha.
use Rattle.prelude.proofs.Logic.{rules, w32, SFits}
use Rattle.order_numbers.specs.Bytes.{two_bytes}
use Rattle.order_numbers.specs.Values.{minutes_bytes}
use Rattle.order_numbers.proofs.PutLaws.{bytes_told}
use Rattle.order_numbers.proofs.put.minutes_bytes.Goals as goal

pub returns : goal.returns
unfolding minutes_bytes two_bytes
returns c =
    let m = c.args.m in
    let fajr-fits : SFits w32 m.fajr = search rules in
    let sunrise-fits : SFits w32 m.sunrise = search rules in
    let dhuhr-fits : SFits w32 m.dhuhr = search rules in
    let asr-fits : SFits w32 m.asr = search rules in
    let maghrib-fits : SFits w32 m.maghrib = search rules in
    let isha-fits : SFits w32 m.isha = search rules in
    simp (
      bytes_told m.fajr _ fajr-fits c.signed_bytes-fajr.ensures,
      bytes_told m.sunrise _ sunrise-fits c.signed_bytes-sunrise.ensures,
      bytes_told m.dhuhr _ dhuhr-fits c.signed_bytes-dhuhr.ensures,
      bytes_told m.asr _ asr-fits c.signed_bytes-asr.ensures,
      bytes_told m.maghrib _ maghrib-fits c.signed_bytes-maghrib.ensures,
      bytes_told m.isha _ isha-fits c.signed_bytes-isha.ensures,
    )
