mod MatchRows
mod ValueRows
mod DefaultRows
mod ModuleRows
