mod Stopped
mod FileAnswers
mod FileCounts
mod Reporting
