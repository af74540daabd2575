mod SoakLaws
mod SummaryLaws
