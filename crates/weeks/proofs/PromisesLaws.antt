-- The windows of an order keep their promise (specs/Promises.antt). Assumes nothing.
use Rattle.order.specs.declared.reading.Order.{Order}
use Rattle.weeks.specs.{Promises.WindowsMeanIt, Report.row_minute}
use Rattle.weeks.proofs.MeaningLaws.{window_answers}

pub windows_mean_it : (o : Order) → WindowsMeanIt o
windows_mean_it o = record { answers = λ first h. window_answers (row_minute o) first }
