use Rattle.std.proofs.Common.{rules}
use Rattle.yasna_times.proofs.Moment.{month_short, day_short}
use Rattle.yasna_times.proofs.Civil.{short_part, hour_short, minute_short, second_short}
use Rattle.yasna_times.proofs.models.utc_time.UTCTime.text.Goals as goal

pub unsigned-month-requires : goal.unsigned-month-requires
unsigned-month-requires c = short_part _ _ c.month.ensures (month_short c.args.self.now.datetime.date)

pub unsigned-day-requires : goal.unsigned-day-requires
unsigned-day-requires c = short_part _ _ c.day.ensures (day_short c.args.self.now.datetime.date)

pub unsigned-hour-requires : goal.unsigned-hour-requires
unsigned-hour-requires c = short_part _ _ c.hour.ensures (hour_short c.args.self.now.datetime.time)

pub unsigned-minute-requires : goal.unsigned-minute-requires
unsigned-minute-requires c = short_part _ _ c.minute.ensures (minute_short c.args.self.now.datetime.time)

pub unsigned-second-requires : goal.unsigned-second-requires
unsigned-second-requires c = short_part _ _ c.second.ensures (second_short c.args.self.now.datetime.time)

pub returns : goal.returns
returns c = search rules
