mod Planning
mod Verdicts
