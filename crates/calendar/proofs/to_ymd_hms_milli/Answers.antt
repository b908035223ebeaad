use Rattle.std.proofs.Common.{◌≡◌, true, sym, ◌∙◌}
use Rattle.calendar.specs.Calendar.{CountsTo}
use Rattle.calendar.specs.Serial.{accepted, day_of}
use Rattle.calendar.proofs.Replies.{replied, said}
use Rattle.calendar.proofs.to_ymd_hms_milli.Goals as goal

pub returns : goal.returns
returns c =
    let is1904 = c.args.is_1904 in
    let x = c.args.serial in
    let date = c.date.result in
    let count = c.millis-count.result in
    let accepts = c.in_ok-from_serial.ensures.accepts is1904 in
    let fits = c.in_ok-day.ensures.accepts in
    let kept = c.in_ok-day.ensures.kept in
    let counted = c.millis-count.ensures ∙ c.in_ok-from_serial.ensures.counts in
    let early : accepted is1904 x ≡ true = (cc) in
    let day : c.in_ok-day.day.number ≡ day_of x = (cc) in
    let dated : CountsTo is1904 date (day_of x) = rw (sym day) (rw (sym kept.0) c.date.ensures) in
    record { value = replied is1904 x date count early counted dated; says = said is1904 x date count early counted dated }
