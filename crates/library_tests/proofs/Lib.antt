mod Going
mod RoundLaws
