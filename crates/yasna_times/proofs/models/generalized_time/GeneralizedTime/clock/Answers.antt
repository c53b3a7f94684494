use Rattle.yasna_times.proofs.Moment.{month_short, day_short}
use Rattle.yasna_times.proofs.Civil.{short_part, hour_short, minute_short}
use Rattle.yasna_times.proofs.models.generalized_time.GeneralizedTime.clock.Goals as goal

pub unsigned-month-requires : goal.unsigned-month-requires
unsigned-month-requires c = short_part _ _ c.month.ensures (month_short c.args.self.now.datetime.date)

pub unsigned-day-requires : goal.unsigned-day-requires
unsigned-day-requires c = short_part _ _ c.day.ensures (day_short c.args.self.now.datetime.date)

pub unsigned-hour-requires : goal.unsigned-hour-requires
unsigned-hour-requires c = short_part _ _ c.hour.ensures (hour_short c.args.self.now.datetime.time)

pub unsigned-minute-requires : goal.unsigned-minute-requires
unsigned-minute-requires c = short_part _ _ c.minute.ensures (minute_short c.args.self.now.datetime.time)
