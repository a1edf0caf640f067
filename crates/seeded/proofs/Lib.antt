-- Lists of runs that one was taken out of, or put behind (Keeping), and a run that gives way (GivingWay), what a generator's
-- draws choose (Drawing), and the runs of several seeds (Sampling).
pub mod GivingWay
pub mod Keeping
pub mod Drawing
pub mod Sampling
