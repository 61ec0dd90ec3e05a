mod Sources
