-- Steps of arithmetic on times that have room, by their names in this crate.
pub use Rattle.net_model.proofs.stated_runs.GridTimes.{sum_fits, difference_fits, quotient_fits, time_fits, rest_is_time}
